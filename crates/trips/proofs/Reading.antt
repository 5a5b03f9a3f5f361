-- An event's record, wherever it stands, is read as the event: each field is read back from its bytes.
use Rattle.std.proofs.Common.{Ok, Some}
use mathlib.Core.Path.{◌≡◌, refl, sym, ap, ◌∙◌}
use mathlib.Core.Bool.{true}
use mathlib.Core.List.{List, ◌++◌}
use Prim.Native.Nat.{ℕ, ◌+◌, ◌-◌, ◌%◌, ◌<◌, ◌≤◌}
use native.Mathlib.Omega.{arith}
use lib.ListN.{length, get_or, drop, length-append, length-drop}
use lib.Seq.{get_or-drop}
use Rattle.rules.specs.Refusals.{lowest}
use Rattle.rules.specs.declared.Event.{Event}
use Rattle.rules.specs.declared.Event.TheVariants.{Refer, Read, Write, Instruction, Interrupt, Change, Init}
use Rattle.records.specs.Bytes.{byte_at}
use Rattle.records.specs.Kinds.{known, body_of}
use Rattle.records.specs.Records.{event_of, record_at}
use Rattle.records.proofs.Laws.{at-whole}
use Rattle.records.proofs.Parts.{event-drop}
use Rattle.writer.specs.Bytes.{record_of}
use Rattle.writer.specs.Writing.{large}
use Rattle.trips.specs.Trips.{Held}
use Rattle.writer.proofs.Fields.{reference_fits, address_fits, change_fits}
use Rattle.trips.proofs.Numbers.{joined, joined_back, signed_back}

-- each field fits its bytes
abbrev pub Fits : Event → Type 0
Fits e = lowest (large e) ≡ 0

one : (x : ℕ) → x ≤ 255 → x % 256 ≡ x
one x h = omega arith

two : (x : ℕ) → x < 0x10000 → joined 2 x ≡ x
two x h = joined_back 2 x h

three : (x : ℕ) → x ≤ 0o77777777 → joined 3 x ≡ x
three x h = joined_back 3 x (omega arith)

-- the event of a record's bytes, at the front
event-back : (e : Event) (q : List ℕ) → Fits e → Held e → event_of (byte_at (record_of e ++ q) 0) (record_of e ++ q) 1 ≡ e
unfolding event_of record_of joined
event-back (Refer r) q f h =
    let b = reference_fits r f in
    rw (one r.mode b.mode, one r.space b.space, one r.access b.access, one r.phase b.phase, two r.va h)
event-back (Read address) q f h = rw (three address (address_fits address f))
event-back (Write address value) q f h = rw (three address (address_fits address f), two value h)
event-back (Instruction va) q f h = rw (two va h)
event-back (Interrupt vector) q f h = rw (two vector h)
event-back (Change register amount) q f h =
    let b = change_fits register amount f in
    rw (one register b.0, signed_back amount b.1)
event-back Init q f h = refl

-- a record's length, by its kind
kind-known : (e : Event) (q : List ℕ) → known (byte_at (record_of e ++ q) 0) ≡ true
unfolding record_of
kind-known (Refer r) q = refl
kind-known (Read address) q = refl
kind-known (Write address value) q = refl
kind-known (Instruction va) q = refl
kind-known (Interrupt vector) q = refl
kind-known (Change register amount) q = refl
kind-known Init q = refl

body_length : (e : Event) (q : List ℕ) → 1 + body_of (byte_at (record_of e ++ q) 0) ≡ length (record_of e)
unfolding record_of
body_length (Refer r) q = refl
body_length (Read address) q = refl
body_length (Write address value) q = refl
body_length (Instruction va) q = refl
body_length (Interrupt vector) q = refl
body_length (Change register amount) q = refl
body_length Init q = refl

pub found : (s : List ℕ) (at : ℕ) (e : Event) (q : List ℕ) → drop at s ≡ record_of e ++ q → Fits e → Held e
    → record_at s at ≡ Ok (Some (e, record { at = at + length (record_of e) }))
found s at e q d f h =
    let front = record_of e ++ q in
    let kind : byte_at s at ≡ byte_at front 0 =
    ap (λ (i : ℕ). get_or s i 0) (omega arith) ∙ sym (get_or-drop at s 0 0) ∙ ap (λ (l : List ℕ). get_or l 0 0) d in
    let body = body_length e q in
    let reach : length s - at ≡ length (record_of e) + length q = sym (length-drop at s) ∙ ap (λ (l : List ℕ). length l) d ∙ length-append (record_of e) q in
    let known-kind : known (byte_at s at) ≡ true = rw kind (kind-known e q) in
    let event : event_of (byte_at s at) s (at + 1) ≡ e = rw (kind, event-drop (byte_at front 0) s at 1, d) (event-back e q f h) in
    let next : at + 1 + body_of (byte_at s at) ≡ at + length (record_of e) = rw kind (omega (arith, body)) in
    rw (at-whole s at (omega (arith, body, reach)) known-kind (omega (arith, next, reach)), event, next)

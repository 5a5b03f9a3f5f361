-- Where the loop stands: what was written so far and what is left to tell make the transcript of all the bytes. So it is at first, each
-- feed leaves it so, and where the run is over nothing is left.
use Rattle.std.proofs.Common.{ℕ, ◌+◌, ◌-◌, ◌<◌, ◌≤◌, ◌≡◌, refl, sym, ap, ◌∙◌, Bool, true, List, [], ◌++◌, length, take, drop, None, Some, IfSome, append-nil, append_assoc, arith}
use Rattle.std.specs.Prelude.{⊤}
use Rattle.std.specs.declared.option.Option.{Option}
use Rattle.std.specs.Io.KnownBytes.{Appends, Consumes, IsAtEnd, prepend_known}
use Rattle.std.proofs.Math.Seq.{take-append_seam}
use Rattle.std.proofs.lemmas.List.{drop-take, drop-drop}
use Rattle.std.proofs.lemmas.Bool.{le-leb}
use Rattle.pieces.specs.Begun.{fresh, Few}
use Rattle.pieces.specs.declared.Begun.{Begun}
use Rattle.stream.specs.Ready.{Ready, part, waiting}
use Rattle.stream.specs.declared.Input.{Input}
use Rattle.stream.proofs.Offered.{ready-length}
use Rattle.transcript.specs.Transcript.{transcript}
use Rattle.transcript.specs.Feeding.{feed_of, reached_by, fed, left}
use Rattle.transcript.specs.declared.Fed.{Fed}
use Rattle.transcript.proofs.Promise.{taken}
use Rattle.transcript.proofs.Together.{together}
use Rattle.transcript.proofs.Calls.{at_first, joining}
use Rattle.transcript.proofs.Left.{left_over}

-- the bytes of the input, those still to be read, what the output held and holds, the bytes that lie ready, the state, and the store
abbrev pub Stands : Option (List ℕ) → Option (List ℕ) → Option (List ℕ) → Option (List ℕ) → List ℕ → Begun → List ℕ → List ℕ → Type 0
Stands None rest before now ready b l₀ l = ⊤
Stands (Some xs) None before now ready b l₀ l = ⊥
Stands (Some xs) (Some ys) before now ready b l₀ l =
    (text : List ℕ) × Appends before now text × ((text ++ (left b (ready ++ ys) l).0, (left b (ready ++ ys) l).1) ≡ transcript xs l₀)

gains_none : (known : Option (List ℕ)) → Appends known known []
gains_none None = tt
gains_none (Some ys) = sym (append-nil ys)

gains_more : (a b c : Option (List ℕ)) (s t : List ℕ) → Appends a b s → Appends b c t → Appends a c (s ++ t)
gains_more None b c s t h k = tt
gains_more (Some xs) None c s t h k = absurd h
gains_more (Some xs) (Some ys) None s t h k = absurd k
gains_more (Some xs) (Some ys) (Some zs) s t h k = k ∙ ap (λ (w : List ℕ). w ++ t) h ∙ append_assoc xs s t

pub start : (known before : Option (List ℕ)) (l : List ℕ) → Stands known known before before [] fresh l l
start None before l = tt
start (Some xs) before l = ([], gains_none before, at_first xs l)

pub finish : (known rest before now : Option (List ℕ)) (ready : List ℕ) (b : Begun) (l₀ l : List ℕ)
    → Stands known rest before now ready b l₀ l → b.over ≡ true
    → IfSome known (λ xs. Appends before now (transcript xs l₀).0 × (l ≡ (transcript xs l₀).1))
finish None rest before now ready b l₀ l h o = tt
finish (Some xs) None before now ready b l₀ l h o = absurd h
finish (Some xs) (Some ys) before now ready b l₀ l h o =
    let e = rw (left_over b (ready ++ ys) l o, append-nil h.0) at h.2 in
    (rw (← e) h.1, ap (λ (y : List ℕ × List ℕ). y.1) e)

abbrev Made : Type 0
Made = Fed × List ℕ × List ℕ

-- a feed
module _ (b : Begun) (piece : List ℕ) (last : Bool) (l out : List ℕ) (x : Made) (e : x ≡ fed l b piece last out) (few : Few b) where
  wrote : take x.0.written x.2 ≡ (feed_of b piece last l (length out)).text
  unfolding fed
  wrote = let q = feed_of b piece last l (length out) in rw e (take-append_seam q.text (drop (length q.text) out))

  pub step : (known rest rest' before now now' : Option (List ℕ)) (ready l₀ : List ℕ)
      → Stands known rest before now ready b l₀ l
      → Consumes (prepend_known ready rest) rest' piece → (last ≡ true → IsAtEnd rest')
      → Appends now now' (take x.0.written x.2)
      → Stands known rest' before now' (drop x.0.reached.taken piece) x.0.reached.begun l₀ x.1
  unfolding fed
  step None rest rest' before now now' ready l₀ h c z w = tt
  step (Some xs) None rest' before now now' ready l₀ h c z w = absurd h
  step (Some xs) (Some ys) None before now now' ready l₀ h c z w = absurd c
  step (Some xs) (Some ys) (Some zs) before now now' ready l₀ h c z w =
      let q = feed_of b piece last l (length out) in
      let k = reached_by b piece last q in
      let rest = left k.begun (drop k.taken piece ++ zs) q.store in
      let t = together b piece zs last l (length out) few z in
      let s = rw c at h.2 in
      let gained = gains_more before now now' h.0 q.text h.1 (rw wrote at w) in
      rw e (h.0 ++ q.text, gained, joining h.0 q.text rest (left b (piece ++ zs) l) t ∙ s)

-- bytes of the buffer that still lie ready are still to come
pub still : (from to : ℕ) (buffer : List ℕ) → to ≤ length buffer → waiting from to buffer ≡ part from to buffer
still from to buffer h = rw (le-leb to (length buffer) h) refl

-- what is not taken of a part is the part from a later place
pub later : (from to n : ℕ) (buffer : List ℕ) → n ≤ to - from → drop n (part from to buffer) ≡ part (from + n) to buffer
later from to n buffer h =
    let m = to - (from + n) in
    let k : to - from ≡ n + m = omega arith in
    rw k (drop-take n m (drop from buffer) ∙ ap (λ (xs : List ℕ). take m xs) (drop-drop n from buffer))

-- a read that went well, a feed of what it brought, and the text written
module _ (b : Begun) (i : Input) (buffer l out : List ℕ) (x : Made) (e : x ≡ fed l b (part i.from i.to buffer) i.last out) (few : Few b) (r : Ready i buffer) where
  pub turn : (known rest rest' before now now' : Option (List ℕ)) (from to : ℕ) (was l₀ : List ℕ) → to ≤ length was → 0 < length buffer
      → Stands known rest before now (part from to was) b l₀ l
      → Consumes (prepend_known (waiting from to was) rest) rest' (part i.from i.to buffer) × (i.last ≡ true → 0 < length buffer → IsAtEnd rest')
      → Appends now now' (take x.0.written x.2)
      → Stands known rest' before now' (part (i.from + x.0.reached.taken) i.to buffer) x.0.reached.begun l₀ x.1
  turn known rest rest' before now now' from to was l₀ h some s brought w =
      let c = rw (still from to was h) at brought.0 in
      let n = taken _ _ _ _ _ x e in
      let m = ready-length i buffer r in
      rw (← later i.from i.to x.0.reached.taken buffer (omega (arith, n, m)))
      (step b (part i.from i.to buffer) i.last l out x e few known rest rest' before now now' (part from to was) l₀ s c (λ z. brought.1 z some) w)

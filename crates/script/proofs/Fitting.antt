-- Each field of an event that a line says fits its bytes: a field's number is never above what it holds, and so on through the line.
use mathlib.Core.Path.{◌≡◌, refl}
use mathlib.Core.Bool.{Bool, true, false, cond}
use mathlib.Core.List.{[], ◌∷◌}
use Prim.Native.Nat.{ℕ, zero, suc, ◌≤◌}
use native.Mathlib.Omega.{arith}
use lib.Dec.{eqb}
use lib.IntN.{ℤ, pos}
use borrow.Author.Tests.{le-ltb, lt-ltb}
use Rattle.std.specs.declared.option.Option.{Option}
use Rattle.std.proofs.Common.{None, Some, Ok, Err}
use Rattle.std.specs.Option.{option_map, ok_or}
use Rattle.rules.specs.Refusals.{lowest}
use Rattle.lines.specs.Lines.{Text}
use Rattle.notation.specs.Words.{first_word, after_word, empty}
use Rattle.notation.specs.Fields.{looked_up, most_of, octal_up_to, number_of, minus, amount_of}
use Rattle.notation.specs.Lines.{Said, names, given, field_of, amount_at, ending, reference_line, write_line, change_line, named_line, line_of}
use Rattle.notation.specs.declared.Field.{Field}
use Rattle.notation.specs.declared.Field.TheVariants.{Mode, Space, Access, Phase, Va, Value, Vector, Address, Register, Byte as AByte}
use Rattle.notation.specs.declared.Expected.{Expected}
use Rattle.notation.specs.declared.Expected.TheVariants.{Name as AName, Field as AField, Amount as AnAmount, End}
use Rattle.notation.specs.declared.Line.{Line}
use Rattle.notation.specs.declared.Line.TheVariants.{Blank, Event, Byte}
use Rattle.notation.specs.declared.Name.{Name}
use Rattle.notation.specs.declared.Name.TheVariants.{Reference, Read, Write, Instruction, Interrupt, Change, Init, Byte as NByte}
use Rattle.notation.proofs.Bounds.{AtMost, octal-at_most, number-at_most}
use Rattle.writer.specs.Writing.{in_byte, large}

-- an amount, where there is one, is held by a byte
abbrev InByte : Option ℤ → Type 0
InByte (Some z) = in_byte z ≡ true
InByte None = Unit {0}

plus-in_byte : (x : Option ℕ) → AtMost 0o177 x → InByte (option_map pos x)
plus-in_byte (Some n) h = lt-ltb n 128 (omega arith)
plus-in_byte None h = tt

minus-in_byte : (n : ℕ) → n ≤ 0o200 → in_byte (minus n) ≡ true
minus-in_byte zero h = refl
minus-in_byte (suc n) h = lt-ltb n 128 (omega arith)

less-in_byte : (x : Option ℕ) → AtMost 0o200 x → InByte (option_map minus x)
less-in_byte (Some n) h = minus-in_byte n h
less-in_byte None h = tt

either-amount : (b : Bool) (x y : Option ℤ) → InByte x → InByte y → InByte (cond b x y)
either-amount true x y h k = h
either-amount false x y h k = k

amount-in_byte : (w : Text) → InByte (amount_of w)
unfolding amount_of
amount-in_byte [] = tt
amount-in_byte (c ∷ t) =
    either-amount (eqb c 45) _ _ (less-in_byte (octal_up_to 0o200 t) (octal-at_most 0o200 t))
    (either-amount (eqb c 43) _ _ (plus-in_byte (octal_up_to 0o177 t) (octal-at_most 0o177 t))
    (plus-in_byte (octal_up_to 0o177 (c ∷ t)) (octal-at_most 0o177 (c ∷ t))))

-- what a line says fits
abbrev pub Fits : Said → Type 0
Fits (Ok Blank) = Unit {0}
Fits (Ok (Event e)) = lowest (large e) ≡ 0
Fits (Ok (Byte b)) = Unit {0}
Fits (Err expected) = Unit {0}

if_given : (most : ℕ) (e : Expected) (x : Option ℕ) (next : ℕ → Said) → AtMost most x → ((n : ℕ) → n ≤ most → Fits (next n))
    → Fits (given (ok_or x e) next)
if_given most e (Some n) next h k = k n h
if_given most e None next h k = tt

given-amount : (x : Option ℤ) (next : ℤ → Said) → InByte x → ((z : ℤ) → in_byte z ≡ true → Fits (next z))
    → Fits (given (ok_or x AnAmount) next)
given-amount (Some z) next h k = k z h
given-amount None next h k = tt

if_amount : (t : Text) (next : ℤ → Said) → ((z : ℤ) → in_byte z ≡ true → Fits (next z)) → Fits (given (amount_at t) next)
unfolding amount_at
if_amount t next = given-amount (amount_of (first_word t)) next (amount-in_byte (first_word t))

if_ends : (l : Line) (t : Text) → Fits (Ok l) → Fits (ending l t)
if_ends l t h = by (empty (first_word t))
  where
    by : (b : Bool) → Fits (cond b (Ok l) (Err End))
    by true = h
    by false = tt

if_field : (f : Field) (t : Text) (next : ℕ → Said) → ((n : ℕ) → n ≤ most_of f → Fits (next n)) → Fits (given (field_of f t) next)
unfolding field_of
if_field f t next = if_given (most_of f) (AField f) (number_of f (first_word t)) next (number-at_most f (first_word t))

reference_fits : (t : Text) → Fits (reference_line t)
unfolding reference_line
reference_fits t =
    if_field Mode t _ (λ mode m.
    if_field Space (after_word t) _ (λ space s.
    if_field Access (after_word (after_word t)) _ (λ access a.
    if_field Phase (after_word (after_word (after_word t))) _ (λ phase p.
    if_field Va (after_word (after_word (after_word (after_word t)))) _ (λ va v.
    if_ends _ (after_word (after_word (after_word (after_word (after_word t)))))
    (rw (le-ltb 255 mode m, le-ltb 255 space s, le-ltb 255 access a, le-ltb 255 phase p)))))))

write-fits : (t : Text) → Fits (write_line t)
unfolding write_line
write-fits t =
    if_field Address t _ (λ address a.
    if_field Value (after_word t) _ (λ value v. if_ends _ (after_word (after_word t)) (rw (le-ltb 0o77777777 address a))))

change_fits : (t : Text) → Fits (change_line t)
unfolding change_line
change_fits t =
    if_field Register t _ (λ register r.
    if_amount (after_word t) _ (λ z h.
    if_ends _ (after_word (after_word t)) (rw (le-ltb 255 register r, h))))

named-fits : (name : Name) (t : Text) → Fits (named_line name t)
named-fits Reference t = reference_fits t
named-fits Read t = if_field Address t _ (λ address a. if_ends _ (after_word t) (rw (le-ltb 0o77777777 address a)))
named-fits Write t = write-fits t
named-fits Instruction t = if_field Va t _ (λ va v. if_ends _ (after_word t) refl)
named-fits Interrupt t = if_field Vector t _ (λ vector v. if_ends _ (after_word t) refl)
named-fits Change t = change_fits t
named-fits Init t = if_ends _ t refl
named-fits NByte t = if_field AByte t _ (λ b h. if_ends _ (after_word t) tt)

pub line-fits : (t : Text) → Fits (line_of t)
unfolding line_of
line-fits t = by (empty (first_word t)) (looked_up (first_word t) names)
  where
    by : (b : Bool) (x : Option Name) → Fits (cond b (Ok Blank) (given (ok_or x AName) (λ (name : Name). named_line name (after_word t))))
    by true x = tt
    by false (Some name) = named-fits name (after_word t)
    by false None = tt

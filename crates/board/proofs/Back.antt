-- A code is read back: its kind and each flag and value by arithmetic. Hence no two small answers have one code.
use mathlib.Core.Path.{◌≡◌, refl, sym, ap, ◌∙◌}
use Rattle.std.specs.declared.option.Option.{Option}
use Rattle.std.proofs.Common.{None, Some}
use mathlib.Core.Bool.{Bool, true, false}
use Prim.Native.Nat.{ℕ, ◌+◌, ◌*◌, ◌/◌, ◌%◌}
use native.Mathlib.Omega.{arith}
use lib.Dec.{eqb}
use borrow.Author.Tests.{ne_eqb}
use Rattle.rules.specs.Paper.{G, A, R, D, X}
use Rattle.rules.specs.Words.{bit}
use Rattle.rules.proofs.Bools.{bit-small}
use Rattle.board.specs.Codes.{six_bits, OfThe48, flag, served_of, answer_of, ReadBack, OneToOne}
use Rattle.board.proofs.Small.{six_bits-small}

same_bit : (b : Bool) → eqb (bit b) 1 ≡ b
same_bit true = refl
same_bit false = refl

flag_is : (v n : ℕ) (b : Bool) → n / v % 2 ≡ bit b → flag v n ≡ b
flag_is v n b e = rw e (same_bit b)

-- 63 is none, and no place of the 48 is 63
same-served : (served : Option ℕ) → OfThe48 served → served_of (six_bits served) ≡ served
same-served (Some place) h = rw (ne_eqb place 63 (λ e. omega arith))
same-served None h = refl

pub read_back : ReadBack
unfolding answer_of
read_back (G byte trap served) small =
    let six = six_bits served in
    let n = 0x10000000 + bit trap * 0x01000000 + six * 0x00040000 + byte in
    let s = bit-small trap in
    let p = six_bits-small served small.1 in
    let h = small.0 in
    let k : n / 0x10000000 ≡ 1 = omega arith in
    let b : n % 0x00040000 ≡ byte = omega arith in
    let d : n / 0x01000000 ≡ 16 + bit trap = omega arith in
    let e : n / 0x00040000 ≡ 1024 + bit trap * 64 + six = omega arith in
    let q : n / 0x00040000 % 64 ≡ six = rw e (omega arith) in
    rw (k, b, flag_is 0x01000000 n trap (rw d (omega arith)), q, same-served served small.1)
read_back (A x y z) small =
    let n = 0x20000000 + bit x * 4 + bit y * 2 + bit z in
    let s = bit-small x in
    let t = bit-small y in
    let u = bit-small z in
    let k : n / 0x10000000 ≡ 2 = omega arith in
    rw (k, flag_is 4 n x (omega arith), flag_is 2 n y (omega arith), flag_is 1 n z (omega arith))
read_back (R word) small =
    let k : (0x30000000 + word) / 0x10000000 ≡ 3 = omega arith in
    let b : (0x30000000 + word) % 0x10000000 ≡ word = omega arith in
    rw (k, b)
read_back D small = refl
read_back (X number) small =
    let k : (0x50000000 + number) / 0x10000000 ≡ 5 = omega arith in
    let b : (0x50000000 + number) % 0x10000000 ≡ number = omega arith in
    rw (k, b)

pub one_to_one : OneToOne
one_to_one p q s t e = sym (read_back p s) ∙ ap answer_of e ∙ read_back q t

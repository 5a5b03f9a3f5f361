-- An event whose fields fit is read back from its code: each field stands in bits of its own.
use mathlib.Core.Path.{◌≡◌, refl, ap}
use mathlib.Core.Bool.{true}
use Prim.Native.Nat.{ℕ, ◌+◌, ◌*◌, ◌-◌, ◌/◌, ◌%◌, ◌<◌}
use native.Mathlib.Omega.{arith}
use lib.IntN.{ℤ, pos, negsuc}
use borrow.Author.Tests.{ltb-true, lt-ltb, le-ltb}
use Rattle.rules.specs.declared.Event.TheVariants.{Refer, Read, Write, Instruction, Interrupt, Change, Init}
use Rattle.writer.specs.Writing.{in_byte}
use Rattle.writer.proofs.Fields.{reference_fits, address_fits, change_fits}
use Rattle.bench.specs.Codes.{excess, unexcess, event_of, event_code, CodeReadBack}

unexcess-back : (z : ℤ) → in_byte z ≡ true → (unexcess (excess z) ≡ z) × (excess z < 256)
unexcess-back (pos n) h =
    let k = ltb-true n 128 h in
    (rw (le-ltb (128 + n) 128 (omega arith)) (ap pos (omega arith)), omega arith)
unexcess-back (negsuc n) h =
    let k = ltb-true n 128 h in
    (rw (lt-ltb (127 - n) 128 (omega arith)) (ap negsuc (omega arith)), omega arith)

pub code_read_back : CodeReadBack
unfolding event_of event_code
code_read_back (Refer r) f h =
    let b = reference_fits r f in
    let m = b.mode in
    let s = b.space in
    let a = b.access in
    let p = b.phase in
    let n : ℕ = 0x7100000000000000 + (r.va * 0x100000000 + r.phase * 0x1000000 + r.access * 0x10000 + r.space * 0x100 + r.mode) in
    let n₁ : n / 0x100 ≡ 0x71000000000000 + (r.va * 0x1000000 + r.phase * 0x10000 + r.access * 0x100 + r.space) = omega arith in
    let n₂ : n / 0x10000 ≡ 0x710000000000 + (r.va * 0x10000 + r.phase * 0x100 + r.access) = omega arith in
    let n₃ : n / 0x1000000 ≡ 0x7100000000 + (r.va * 0x100 + r.phase) = omega arith in
    let n₄ : n / 0x100000000 ≡ 0x71000000 + r.va = omega arith in
    let kind : n / 0x100000000000000 ≡ 0x71 = omega arith in
    let mode : n % 0x100 ≡ r.mode = omega arith in
    let space : (0x71000000000000 + (r.va * 0x1000000 + r.phase * 0x10000 + r.access * 0x100 + r.space)) % 0x100 ≡ r.space = omega arith in
    let access : (0x710000000000 + (r.va * 0x10000 + r.phase * 0x100 + r.access)) % 0x100 ≡ r.access = omega arith in
    let phase : (0x7100000000 + (r.va * 0x100 + r.phase)) % 0x100 ≡ r.phase = omega arith in
    let va : (0x71000000 + r.va) % 0x10000 ≡ r.va = omega arith in
    rw (kind, mode, n₁, n₂, n₃, n₄, space, access, phase, va)
code_read_back (Read address) f h =
    let a = address_fits address f in
    let n : ℕ = 0x7200000000000000 + address in
    let kind : n / 0x100000000000000 % 16 ≡ 2 = omega arith in
    let low : n % 0x1000000 ≡ address = omega arith in
    rw (kind, low)
code_read_back (Write address value) f h =
    let a = address_fits address f in
    let n : ℕ = 0x7300000000000000 + (value * 0x100000000 + address) in
    let kind : n / 0x100000000000000 ≡ 0x73 = omega arith in
    let low : n % 0x1000000 ≡ address = omega arith in
    let n₄ : n / 0x100000000 ≡ 0x73000000 + value = omega arith in
    let word : (0x73000000 + value) % 0x10000 ≡ value = omega arith in
    rw (kind, low, n₄, word)
code_read_back (Instruction va) f h =
    let n : ℕ = 0x7400000000000000 + va * 0x100000000 in
    let kind : n / 0x100000000000000 % 16 ≡ 4 = omega arith in
    let word : n / 0x100000000 % 0x10000 ≡ va = omega arith in
    rw (kind, word)
code_read_back (Interrupt vector) f h =
    let n : ℕ = 0x7500000000000000 + vector * 0x100000000 in
    let kind : n / 0x100000000000000 % 16 ≡ 5 = omega arith in
    let word : n / 0x100000000 % 0x10000 ≡ vector = omega arith in
    rw (kind, word)
code_read_back (Change register amount) f h =
    let b = change_fits register amount f in
    let r = b.0 in
    let back = unexcess-back amount b.1 in
    let e = back.1 in
    let n : ℕ = 0x7600000000000000 + (register * 0x100 + excess amount) in
    let kind : n / 0x100000000000000 ≡ 0x76 = omega arith in
    let n₁ : n / 0x100 ≡ 0x76000000000000 + register = omega arith in
    let second : (0x76000000000000 + register) % 0x100 ≡ register = omega arith in
    let low : n % 0x100 ≡ excess amount = omega arith in
    rw (kind, n₁, second, low, back.0)
code_read_back Init f h = refl

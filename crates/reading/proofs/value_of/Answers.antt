-- With no remainder the least value of the form is the base value; else the window has the remainder, and two's complement makes the
-- value of it. The form is a right structure's, so all numbers are small.
use Prim.Native.Nat.{ℕ, suc, ◌+◌, ◌*◌, ◌^◌, ◌≤◌}
use mathlib.Core.Path.{◌≡◌, refl, sym, ap, ◌∙◌}
use native.Mathlib.Nat.{pos_of_ne-zero, pow-suc}
use native.Mathlib.Omega.{arith}
use lib.ListN.{length, take, drop, length-drop}
use lib.Pow.{pow_pos}
use lib.Seq.{drop-drop}
use Rattle.bits.specs.Bits.{number_of, signed}
use Rattle.bits.specs.InnerRaised.{from_zero}
use Rattle.bits.proofs.Windows.{window_after}
use Rattle.compiled.specs.InnerForm.{lowest}
use Rattle.reading.proofs.Laws.{value_base, value_rest, value_short}
use Rattle.reading.proofs.Cursors.{lower_base, high_small, ValueForm, value_form, rest_half}
use Rattle.reading.proofs.value_of.Goals as goal
use Rattle.reading.proofs.value_of.Goals.{Start}

-- the form is a value's
own : (c : Start) → ValueForm c.requires.0.0 c.args.f
own c = value_form c.requires.0.0 c.args.f c.requires.0.1 c.requires.0.2 c.requires.0.3

pub overflow_add-at : goal.overflow_add-at
overflow_add-at c = omega (arith, (own (goal.at.overflow_add-at c).Start).fine.most)

pub returns-then-q-eq0 : goal.returns-then-q-eq0
returns-then-q-eq0 c = let a = c.args in record {
  told = λ d bs e right small seen.
      let v = value_form d a.f e right c.requires.0.3 in
      let x : from_zero 131072 a.f.lo ≡ signed 16 d.base =
      ap (from_zero 131072) (v.lo ∙ ap (lowest d.base) c.if-q-eq0.true) ∙ lower_base d.base small in
      rw (
        v.rest,
        v.prefix,
        value_base a.f.remainder d.base a.c.table (drop a.f.prefix (drop a.c.at bs)) c.if-q-eq0.true,
        x,
        drop-drop a.f.prefix a.c.at bs,
      );
  onward = omega (arith, (own (goal.at.returns-then-q-eq0 c).Start).fine.some, (own (goal.at.returns-then-q-eq0 c).Start).fine.lo);
  summed = refl;
}

pub overflow_add-p : goal.overflow_add-p
overflow_add-p c = let v = own (goal.at.overflow_add-p c).Start in omega (arith, v.fine.most, v.fine.rest)

pub returns-then-left-p : goal.returns-then-left-p
returns-then-left-p c = let a = c.args in record {
  told = λ d bs e right small seen.
      let v = value_form d a.f e right c.requires.0.3 in
      let l = drop a.c.at bs in
      rw (v.rest, v.prefix)
      (sym
      (value_short a.f.remainder d.base a.c.table (drop a.f.prefix l)
      (omega (arith, length-drop a.f.prefix l, seen.count))));
  onward = tt;
  summed = tt;
}

pub after-n-requires : goal.after-n-requires
after-n-requires c = let v = own (goal.at.after-n-requires c).Start in
    omega (arith, pos_of_ne-zero c.if-q-eq0.false, v.fine.most, v.fine.rest)

pub overflow_sub-f : goal.overflow_sub-f
overflow_sub-f c = (rest_half (own (goal.at.overflow_sub-f c).Start) c.if-q-eq0.false).3

pub raised-requires : goal.raised-requires
raised-requires c = let a = c.args in
    let v = own (goal.at.raised-requires c).Start in
    let h = rest_half v c.if-q-eq0.false in
    let n = high_small (a.w * 2 ^ a.f.prefix) a.f.remainder (omega (arith, v.fine.rest)) in
    let p = ap (λ (x : ℕ). 2 ^ x) h.1 ∙ pow-suc 2 h.0 in
    omega (arith, pow_pos h.0, c.after-n.ensures)

pub overflow_add-at-2 : goal.overflow_add-at-2
overflow_add-at-2 c = omega (arith, (own (goal.at.overflow_add-at-2 c).Start).fine.most)

pub overflow_add-at-3 : goal.overflow_add-at-3
overflow_add-at-3 c = let v = own (goal.at.overflow_add-at-3 c).Start in
    omega (arith, v.fine.most, v.fine.rest)

pub returns : goal.returns
returns c =
    let a = c.args in
    let p = a.f.prefix in
    let q = a.f.remainder in record {
      told = λ d bs e right small seen.
          let v = value_form d a.f e right c.requires.0.3 in
          let h = rest_half v c.if-q-eq0.false in
          let l = drop a.c.at bs in
          let there : p + q ≤ length l = omega (arith, seen.count) in
          let n : c.after-n.result ≡ number_of (take q (drop p l)) =
          c.after-n.ensures
          ∙ window_after l a.w p q seen.window seen.small (omega (arith, v.fine.most, v.fine.rest)) there in
          let x : from_zero 131072 c.raised.result ≡ signed (suc h.0) (number_of (take q (drop p l))) =
          c.raised.ensures.0 h.0 h.2 ∙ ap (signed (suc h.0)) n in
          rw (
            v.rest,
            v.prefix,
            value_rest q h.0 d.base a.c.table (drop p l) h.1 (omega (arith, length-drop p l)),
            x,
            drop-drop p a.c.at bs,
            drop-drop q (a.c.at + p) bs,
          );
      onward = omega (arith, (own (goal.at.returns c).Start).fine.some, c.raised.ensures.1);
      summed = refl;
    }

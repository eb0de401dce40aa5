-- That tables are held has one proof at most, as a struct that keeps it needs. No public contract rests on this.
use mathlib.Core.Path.{refl, ap}
use mathlib.Core.Logic.{inl, inr}
use native.Mathlib.Omega.{arith}
use Rattle.std.specs.Prelude.{ℕ, List, length}
use Rattle.std.specs.Coded.{Coded, Coded-set, coded_ℕ, coded_bool, coded_list, coded×, code_by, le_prop}
use Rattle.tables.specs.declared.Structure.{Structure}
use Rattle.compiled.specs.declared.Form.{Form}
use Rattle.compiled.specs.InnerForm.{Says, Compiled, CompiledOrNone}

coded_form : Coded Form
coded_form = code_by (ℕ × (ℕ × (ℕ × (ℕ × (ℕ × ℕ))))) (coded× coded_ℕ (coded× coded_ℕ (coded× coded_ℕ (coded× coded_ℕ (coded× coded_ℕ coded_ℕ)))))
    (λ f. (f.prefix, (f.remainder, (f.to, (f.lo, (f.hi, f.word))))))
    (λ n. record { prefix = n.0; remainder = n.1.0; to = n.1.1.0; lo = n.1.1.1.0; hi = n.1.1.1.1.0; word = n.1.1.1.1.1 })
    (λ _. refl)

coded_structure : Coded Structure
coded_structure = code_by (ℕ × (ℕ × (ℕ × (ℕ × ℕ)))) (coded× coded_ℕ (coded× coded_ℕ (coded× coded_ℕ (coded× coded_ℕ coded_ℕ))))
    (λ f. (f.prefix, (f.whole, (f.mode, (f.base, f.code)))))
    (λ n. record { prefix = n.0; whole = n.1.0; mode = n.1.1.0; base = n.1.1.1.0; code = n.1.1.1.1 })
    (λ _. refl)

says_prop : (cs : List Structure) (tab : List ℕ) (t : ℕ) → IsProp (Says cs tab t)
says_prop cs tab t = λ a b i. record {
  count = Coded-set coded_ℕ _ _ a.count b.count i;
  form = λ k h. Coded-set coded_form _ _ (a.form k h) (b.form k h) i;
}

compiled_prop : (tables : List (List Structure)) (tab : List ℕ) → IsProp (Compiled tables tab)
compiled_prop tables tab = λ a b i. record {
  room = Coded-set coded_ℕ _ _ a.room b.room i;
  some = le_prop a.some b.some i;
  most = le_prop a.most b.most i;
  right = Coded-set coded_bool _ _ a.right b.right i;
  two_bytes = λ t k. le_prop (a.two_bytes t k) (b.two_bytes t k) i;
  says = λ t h. says_prop _ tab t (a.says t h) (b.says t h) i;
}

pub held_prop : (tables : List (List Structure)) (tab : List ℕ) → IsProp (CompiledOrNone tables tab)
held_prop tables tab (inl a) (inl b) = λ i. inl (compiled_prop tables tab a b i)
held_prop tables tab (inr a) (inr b) = λ i. inr (Coded-set (coded_list (coded_list coded_structure)) _ _ a.0 b.0 i, Coded-set (coded_list coded_ℕ) _ _ a.1 b.1 i)
held_prop tables tab (inl a) (inr b) = absurd (omega (arith, a.some, ap length b.0))
held_prop tables tab (inr a) (inl b) = absurd (omega (arith, b.some, ap length a.0))

-- Reading a value takes from a stream a word of its own: whatever follows it, the same value is read. Assumes nothing.
use Prim.Native.Nat.{ℕ, suc}
use mathlib.Core.Path.{◌≡◌, sym, ◌∙◌}
use mathlib.Core.Bool.{true}
use mathlib.Core.List.{List, [], ◌∷◌, ◌++◌}
use native.Mathlib.Omega.{arith}
use lib.IntN.{ℤ}
use lib.ListN.{length}
use Rattle.wire.specs.Numbers.{bytes_of}
use Rattle.wire.specs.RuleWords.{every}
use Rattle.bits.specs.Bits.{bits_in}
use Rattle.bits.proofs.Laws.{Small, small_behind}
use Rattle.tables.specs.declared.Structure.{Structure}
use Rattle.tables.specs.Section2.{table_right}
use Rattle.reading.specs.Reading.{gave, read_next}
use Rattle.shortest.specs.InnerRule.{twos}
use Rattle.reading.proofs.Laws.{next_coded}
use Rattle.shortest.proofs.Bridge.{behind_within}
use Rattle.shortest.proofs.Plain.{plain_read, plain_taken}

pub record Cut (tables : List (List Structure)) (t : ℕ) (bs : List ℕ) (v : ℤ) (next : ℕ) (rest : List ℕ) : Type 0 where
  pub small : Small rest
  pub word : List ℕ
  pub whole : word ++ rest ≡ bs
  pub again : (more : List ℕ) → read_next tables t (word ++ more) ≡ gave v next more

-- without Section 2: two bytes
plain_cut : (t : ℕ) (bs : List ℕ) (v : ℤ) (next : ℕ) (rest : List ℕ) → Small bs → read_next [] t bs ≡ gave v next rest → Cut [] t bs v next rest
unfolding read_next
plain_cut t bs v next rest small h =
    let w = plain_taken t bs v next rest small h in
    record {
      small = small_behind (bits_in (bytes_of 2 (twos 16 v))) rest (rw w.bits at small);
      word = bits_in (bytes_of 2 (twos 16 v));
      whole = sym w.bits;
      again = λ more. rw (← w.table) (plain_read t v more w.holds);
    }

pub next_cut : (n : ℕ) (tables : List (List Structure)) → every (table_right n) tables ≡ true → (t : ℕ) (bs : List ℕ) (v : ℤ) (next : ℕ)
    (rest : List ℕ) → Small bs → read_next tables t bs ≡ gave v next rest → Cut tables t bs v next rest
next_cut n [] right t bs v next rest small h = plain_cut t bs v next rest small h
next_cut n (cs ∷ ts) right t bs v next rest small h =
    let by = next_coded (cs ∷ ts) (omega arith) t in
    let b = behind_within n (cs ∷ ts) right (suc (length bs)) t bs v next rest (omega arith) small (sym (by bs) ∙ h) in
    record { small = b.small; word = b.word; whole = b.whole; again = λ more. by (b.word ++ more) ∙ b.again more }

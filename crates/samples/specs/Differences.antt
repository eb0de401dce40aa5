-- Differences (01, Leads and samples). Order 0 stores every sample as it is. Orders 1 and 2 do so with as many samples as their number
-- says; each later sample is stored less what those before it foretell: the last one (order 1), or twice the last one less the one
-- before that (order 2). An order over 2, which no accepted record has, is taken as 2.
use Rattle.std.specs.Prelude.{ℕ, zero, suc, ◌+◌, cond, List, [], ◌∷◌, ltb, ℤ, pos, ◌+ℤ◌, ◌-ℤ◌}

-- the value stored at a place, counted from 0, for a sample x behind the samples `last` and, before that, `other`
unfoldable pub stored_of : ℕ → ℕ → ℤ → ℤ → ℤ → ℤ
stored_of zero place x last other = x
stored_of (suc zero) place x last other = cond (ltb place 1) x (x -ℤ last)
stored_of (suc (suc k)) place x last other = cond (ltb place 2) x (x -ℤ (last +ℤ last) +ℤ other)

-- the sample that a stored value decodes to, behind the same two
unfoldable pub sample_of : ℕ → ℕ → ℤ → ℤ → ℤ → ℤ
sample_of zero place v last other = v
sample_of (suc zero) place v last other = cond (ltb place 1) v (v +ℤ last)
sample_of (suc (suc k)) place v last other = cond (ltb place 2) v (v +ℤ (last +ℤ last) -ℤ other)

-- the values stored for samples, from a place on
unfoldable pub stored_from : ℕ → ℕ → ℤ → ℤ → List ℤ → List ℤ
stored_from order place last other [] = []
stored_from order place last other (x ∷ xs) = stored_of order place x last other ∷ stored_from order (place + 1) x last xs

-- the values stored for all samples of a lead or a beat
unfoldable pub differences : ℕ → List ℤ → List ℤ
differences order xs = stored_from order 0 (pos 0) (pos 0) xs

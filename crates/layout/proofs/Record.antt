-- Section 6 and the record, of the parts that were put. Assumes nothing.
use Prim.Native.Nat.{ℕ, ◌+◌, ◌-◌, ◌*◌, ◌≤◌}
use mathlib.Core.Path.{◌≡◌, refl, sym, ap, ◌∙◌}
use mathlib.Core.List.{List, [], ◌∷◌, ◌++◌, map, append_assoc}
use native.Mathlib.Omega.{arith}
use borrow.Rule.Slice.PartMut.{put_mid}
use lib.ListN.{length, replicate, take, drop, length-append, length-drop}
use lib.Seq.{length-take-le}
use Rattle.wire.specs.Numbers.{bytes_of}
use Rattle.wire.proofs.Laws.{length_bytes_of}
use Rattle.layout.specs.Layout.{evened, section_length, checked, section_bytes, zero_reserved, letters, joined}
use Rattle.layout.specs.Layout.{streams_data, pointers_data, section2_size, section2_bytes, record_size, record_bytes}
use Rattle.layout.specs.InnerCounts.{byte_counts}
use Rattle.layout.proofs.Filled.{Filled, filled_behind, filled_part, filled_length}
use Rattle.layout.proofs.Laws.{spare_put, length_section_bytes, length_byte_counts, counts_are}

-- ---- Section 6

module _ (step interval order : ℕ) (sizes : List ℕ) (streams : List (List ℕ)) (are : sizes ≡ map length streams) where
  abbrev front : List ℕ
  front = bytes_of 2 step ++ (bytes_of 2 interval ++ (order ∷ (0 ∷ byte_counts sizes)))

  data_are : front ++ joined streams ≡ streams_data step interval order streams
  unfolding streams_data
  data_are = rw (are, counts_are streams) (simp append_assoc)

  -- its head, the streams behind it and the spare byte are put
  module _ (l x y z zs : List ℕ) (from end : ℕ) (start : from ≡ 22 + 2 * length sizes) (stop : end ≡ from + length zs)
      (size : length l ≡ section_length (length (streams_data step interval order streams)))
      (head : x ≡ take 16 l ++ (bytes_of 2 step ++
      (bytes_of 2 interval ++ (order ∷ (0 ∷ (byte_counts sizes ++ drop (22 + 2 * length sizes) l))))))
      (body : y ≡ put_mid from (end - from) x zs) (put : zs ≡ joined streams) (long : length y ≡ length l)
      (spare : z ≡ take end y ++ replicate (length y - end) 0) where
    filled_head : Filled l 16 front from x
    filled_head = record {
      start = length-take-le 16 l (omega arith);
      size = simp (length-append, length_bytes_of, length_byte_counts) (omega arith);
      is = head ∙ rw start (simp append_assoc);
    }

    filled_data : Filled l 16 (streams_data step interval order streams) end y
    filled_data =
        let whole : front ++ zs ≡ streams_data step interval order streams = ap (λ (q : List ℕ). front ++ q) put ∙ data_are in
        rw (body, ← whole) (filled_part zs end filled_head (omega arith) (omega arith))

    pub section6_put : drop 16 z ≡ evened (streams_data step interval order streams)
    section6_put = spare_put (streams_data step interval order streams) filled_data (long ∙ size) spare

-- ---- the record

-- sections in a row
in_a_row : (a b c d e : List ℕ) → (a ++ (b ++ (c ++ d))) ++ e ≡ a ++ (b ++ (c ++ (d ++ e)))
in_a_row a b c d e = simp append_assoc

-- before Section 6, which is there, come the pointers and the others; then come the size and the check
module _ (version : ℕ) (data1 data2 data3 data6 l x o p0 p : List ℕ) (size1 size2 size3 : ℕ) (e1 : size1 ≡ section_length (length data1))
    (e2 : size2 ≡ section2_size (length data2)) (e3 : size3 ≡ section_length (length data3))
    (within : 142 + size1 + size2 + size3 ≤ length l) where
  pub record_put : Filled l 6 (([] ++ p0) ++ p) (142 + size1 + size2 + size3) x
      → p0 ≡ section_bytes 0 version letters (pointers_data size1 size2 size3 (length l - (142 + size1 + size2 + size3)))
      → p ≡ section_bytes 1 version zero_reserved data1 ++ (section2_bytes version data2 ++ section_bytes 3 version zero_reserved data3)
      → drop (142 + size1 + size2 + size3) l ≡ section_bytes 6 version zero_reserved data6
      → o ≡ checked (bytes_of 4 (length x) ++ drop 6 x) → o ≡ record_bytes version data1 data2 data3 data6
  unfolding record_bytes
  record_put f h0 h h6 sealed =
      let at6 = 142 + size1 + size2 + size3 in
      let left : length l - at6 ≡ section_length (length data6) =
      sym (length-drop at6 l) ∙ ap length h6 ∙ length_section_bytes 6 version zero_reserved data6 refl in
      let long : length x ≡ record_size (length data1) (length data2) (length data3) (length data6) =
      filled_length f within ∙ omega (arith, left, within, e1, e2, e3) in
      let zeroth = section_bytes 0 version letters (pointers_data size1 size2 size3 (length l - at6)) in
      let first = section_bytes 1 version zero_reserved data1 in
      let second = section2_bytes version data2 in
      let third = section_bytes 3 version zero_reserved data3 in
      let sixth = section_bytes 6 version zero_reserved data6 in
      let behind : drop 6 x ≡ zeroth ++ (first ++ (second ++ (third ++ sixth))) =
      filled_behind f ∙ rw (h0, h, h6) (in_a_row zeroth first second third sixth) in
      sealed ∙ rw (long, behind, left, e1, e2, e3)

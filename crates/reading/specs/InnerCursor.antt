-- The meaning of the bit cursor and its methods, by the reading rule. No public contract rests on this.
use Rattle.std.specs.Prelude.{Option as Answer, None, Some, ℕ, ◌+◌, ◌*◌, ◌≤◌, ◌<◌, ◌≡◌, List, length, get_or, drop}
use Rattle.std.proofs.Math.Option.{Option, none, some}
use Rattle.wire.specs.Bounds.{most_structures}
use Rattle.bits.specs.InnerRaised.{value_zero, from_zero}
use Rattle.bits.specs.InnerWindow.{Window}
use Rattle.tables.specs.declared.Structure.{Structure}
use Rattle.compiled.specs.declared.Form.{Form}
use Rattle.compiled.specs.InnerForm.{form_of, CompiledSome}
use Rattle.reading.specs.Reading.{Next, gave, stuck, read_coded}
use Rattle.reading.specs.Compared.{compared_coded}
use Rattle.reading.specs.declared.Cursor.{Cursor}
use Rattle.std.specs.declared.ops.ControlFlow.{ControlFlow}
use Rattle.std.specs.declared.ops.ControlFlow.TheVariants.{Break, Continue}

-- the bits bs, of which `left` are left, are seen through a window
pub record Seen (bs : List ℕ) (w left : ℕ) : Type 0 where
  pub window : Window bs w
  pub small : (i : ℕ) → get_or bs i 0 < 2
  pub count : length bs ≡ left

-- what a search found, and the form of what a table has
abbrev pub found_in : Answer (Form × ℕ) → Option Form
found_in (Some x) = some x.0
found_in None = none

abbrev pub formed : Option Structure → Option Form
formed none = none
formed (some c) = some (form_of c)

-- it is at a place
abbrev pub Placed : ℕ → Answer (Form × ℕ) → Type 0
Placed n (Some x) = x.1 ≡ n
Placed n None = Unit {0}

-- an answer, of a stream of the bits bs; the engines hold values with 131,072 added
abbrev pub told : List ℕ → Answer (ℕ × Cursor) → Next
told bs (Some x) = gave (from_zero value_zero x.0) x.1.table (drop x.1.at bs)
told bs None = stuck

-- a burst ended with an answer, or reading goes on from its cursor
abbrev pub told_of : List (List Structure) → List ℕ → ControlFlow (Answer (ℕ × Cursor)) Cursor → Next
told_of tables bs (Break r) = told bs r
told_of tables bs (Continue c) = read_coded tables c.table (drop c.at bs)

-- an answer's cursor has summed up n structures compared
abbrev pub Summed : ℕ → Answer (ℕ × Cursor) → Type 0
Summed n (Some x) = x.1.compared ≡ n
Summed n None = Unit {0}

-- so has that of a burst, with those that reading goes on to compare
abbrev pub SummedOf : List (List Structure) → List ℕ → ℕ → ControlFlow (Answer (ℕ × Cursor)) Cursor → Type 0
SummedOf tables bs n (Break r) = Summed n r
SummedOf tables bs n (Continue c) = c.compared + compared_coded tables c.table (drop c.at bs) ≡ n

-- a cursor within n bits, at one of eight tables, that has compared no more than 64 structures for each bit
abbrev pub Within : ℕ → Cursor → Type 0
Within n c = (c.at ≤ n) × (1 ≤ c.table) × (c.table ≤ 8) × (c.compared ≤ most_structures * c.at)

-- a cursor at which bytes are read by the tables that the numbers say
abbrev pub Reads : List ℕ → List ℕ → Cursor → Type 0
Reads tab s c = CompiledSome tab × (length s ≤ 1048576) × Within (length s * 8) c

-- a form that leads on to one of eight tables, by a prefix that is there within n bits
abbrev pub Leads : ℕ → ℕ → Form → Type 0
Leads at n f = (1 ≤ f.prefix) × (at + f.prefix ≤ n) × (1 ≤ f.to) × (f.to ≤ 8)

-- an answer's cursor is further on than a place, and still within n bits
abbrev pub Onward : ℕ → ℕ → Answer (ℕ × Cursor) → Type 0
Onward at n (Some x) = (at < x.1.at) × Within n x.1 × (x.0 < 262144)
Onward at n None = Unit {0}

-- so is that of a burst that did not end, at one of eight tables
abbrev pub OnwardOf : ℕ → ℕ → ControlFlow (Answer (ℕ × Cursor)) Cursor → Type 0
OnwardOf at n (Break r) = Onward at n r
OnwardOf at n (Continue c) = (at < c.at) × Within n c

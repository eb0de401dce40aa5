use Prim.Native.Nat.{◌+◌, ◌-◌, ◌*◌, ◌≤◌, ◌<◌}
use native.Mathlib.Omega.{arith}
use lib.ListN.{length}
use Rattle.compiled.proofs.Laws.{FineForm}
use Rattle.samples.proofs.Laws.{length_differences}
use Rattle.encode.proofs.Steps.{next_table, next_sink, next_inside, next_place, next_fine, next_most, going_value, going_switch, place_room}
use Rattle.encode.proofs.run.Goals as goal
use Rattle.encode.proofs.run.Goals.{After-form_at-f, In-loop-left}

-- a code is left
more : (c : In-loop-left) → 0 < c.loop-left.left
more c = omega arith

-- the sample and the table that the walk has reached
sample : (c : In-loop-left) → let a = c.args in
    c.loop-left.i < length a.xs.now
sample c =
    rw (length_differences c.args.order c.args.xs.now) at
    (next_inside c.requires.compiled_count.0 c.loop-left.invariant.0 c.requires.planned c.requires.compiled_count.2 (omega arith))

table : (c : In-loop-left) → let a = c.args in
    (1 ≤ a.from.t) × (a.from.t ≤ a.n) × (a.n ≤ 8)
table c = next_table c.requires.compiled_count.0 c.loop-left.invariant.0

room : (c : In-loop-left) → let l = c.loop-left in
    let a = c.args in
    l.i * a.n + (a.from.t - 1) < length a.work.now
room c =
    let l = c.loop-left in
    place_room l.i c.args.from.t c.args.n (length c.args.xs.now) (length c.args.work.now)
    (sample c) (table c).0 (table c).1 c.requires.compiled_count.1

-- the structure that is there
fine : (c : After-form_at-f) → FineForm c.form_at-f.result
fine c =
    let l = c.loop-left in
    next_fine c.requires.compiled_count.0 l.invariant.0 c.requires.planned c.requires.compiled_count.2 (omega arith) c.form_at-f.result c.form_at-f.ensures

most : (c : After-form_at-f) → let f = c.form_at-f.result in
    f.prefix + f.remainder ≤ c.loop-left.left
most c =
    let l = c.loop-left in
    let f = c.form_at-f in
    next_most c.requires.compiled_count.0 l.invariant.0 c.requires.planned c.requires.compiled_count.2 (omega arith) f.result f.ensures

pub overflow_mul-k : goal.overflow_mul-k
overflow_mul-k c = omega (arith, room c)

pub overflow_add-k : goal.overflow_add-k
overflow_add-k c = omega (arith, room c)

pub bounds-work-i : goal.bounds-work-i
bounds-work-i c = room (goal.at.bounds-work-i c).In-loop-left

pub form_at-f-requires : goal.form_at-f-requires
form_at-f-requires c =
    let r = c.requires.compiled_count.0.1 in
    let l = c.loop-left in
    (r.room, omega (arith, table (goal.at.form_at-f-requires c).In-loop-left), next_place c.requires.compiled_count.0 l.invariant.0 c.requires.planned c.requires.compiled_count.2 (omega arith))

pub put_code-sink-requires : goal.put_code-sink-requires
put_code-sink-requires c =
    let l = c.loop-left in
    let f = fine (goal.at.put_code-sink-requires c).After-form_at-f in
    let k = next_sink c.requires.compiled_count.0 l.invariant.0 in record { prefix_bound = (f.most, f.rest, f.word, sample (goal.at.put_code-sink-requires c).In-loop-left); room = omega (arith, k, most (goal.at.put_code-sink-requires c).After-form_at-f, c.requires.compiled_count.3, l.invariant.0.same) }

pub overflow_add-left : goal.overflow_add-left
overflow_add-left c = let f = fine (goal.at.overflow_add-left c).After-form_at-f in omega (arith, f.most, f.rest)

pub overflow_sub-left : goal.overflow_sub-left
overflow_sub-left c = most (goal.at.overflow_sub-left c).After-form_at-f

pub returns-then-f-ne0 : goal.returns-then-f-ne0
returns-then-f-ne0 c = let f = c.form_at-f in
    let q = c.put_code-sink in (
      going_switch c.requires.compiled_count.0 c.loop-left.invariant.0 c.requires.planned c.requires.compiled_count.2 (more (goal.at.returns-then-f-ne0 c).In-loop-left) f.result f.ensures
          q.new.out q.result q.ensures.0 q.ensures.1 q.ensures.2 c.if-f-ne0.true,
      omega (arith, (fine (goal.at.returns-then-f-ne0 c).After-form_at-f).some, most (goal.at.returns-then-f-ne0 c).After-form_at-f, c.loop-left.invariant.1),
    )

pub overflow_add-i : goal.overflow_add-i
overflow_add-i c =
    omega (arith, sample (goal.at.overflow_add-i c).In-loop-left)

pub loop-left-smaller : goal.loop-left-smaller
loop-left-smaller c = omega (arith, (fine (goal.at.loop-left-smaller c).After-form_at-f).some, most (goal.at.loop-left-smaller c).After-form_at-f)

pub loop-left-preserved : goal.loop-left-preserved
loop-left-preserved c = let f = c.form_at-f in
    let q = c.put_code-sink in (
      going_value c.requires.compiled_count.0 c.loop-left.invariant.0 c.requires.planned c.requires.compiled_count.2 (more (goal.at.loop-left-preserved c).In-loop-left) f.result f.ensures
          q.new.out q.result q.ensures.0 q.ensures.1 q.ensures.2 c.if-f-ne0.false,
      omega (arith, c.loop-left.invariant.1),
    )

use Rattle.std.proofs.Common.{◌≡◌, ◌<◌, ◌≤◌, length, arith, set, refl}
use Rattle.std.specs.Prelude.{Contains}
use Rattle.std.specs.Map.{keys_of}
use Rattle.lalrpop_collections.proofs.theory.collections.SparseMaps.{placed_differ, placed_kept, placed_more, placed_resized}
use Rattle.canonical_by_number.proofs.number_map.NumberMap.push.Goals.{then-len-count+in_ok-resize, else-len-count}
use Rattle.canonical_by_number.proofs.number_map.NumberMap.push.Goals as goal

pub invariant_of-self-in_err-push : goal.invariant_of-self-in_err-push
invariant_of-self-in_err-push c =
    let es = c.self.inside.entries.items in
    let absent : ¬ Contains (keys_of es) c.args.number = rw c.self.view_is c.requires in
    elim c.if-len-count.branch [
      | then-len-count+in_ok-resize w ↦
          let n : length c.self.inside.places.items ≤ c.in_ok-count.count = omega arith in
          rw (c.in_err-push.ensures.items, w.self-inside-is, w.in_ok-resize.ensures.items) (placed_kept _ es (placed_resized c.self.inside.places.items es c.self.invariant c.in_ok-count.count n _) c.args.number c.len-2.result absent)
      | else-len-count w ↦ rw (c.in_err-push.ensures.items, w.self-inside-is) (placed_kept c.self.inside.places.items es c.self.invariant c.args.number c.len-2.result absent)
    ]

pub invariant_of-self-2 : goal.invariant_of-self-2
invariant_of-self-2 c =
    let es = c.self.inside.entries.items in
    let absent : ¬ Contains (keys_of es) c.args.number = rw c.self.view_is c.requires in
    let counted = rw c.in_ok-count.ensures.ok_part at c.checked_add.ensures in
    elim c.if-len-count.branch [
      | then-len-count+in_ok-resize w ↦
          let n : length c.self.inside.places.items ≤ c.in_ok-count.count = omega arith in
          let behind = rw w.self-inside-is at c.len-2.ensures in
          let here : c.len-2.result ≡ length es = omega arith in
          let room : c.args.number < length w.resize.new.self.items = omega (arith, w.in_ok-resize.ensures.len) in
          let wide = placed_resized c.self.inside.places.items es c.self.invariant c.in_ok-count.count n _ in
          rw (c.in_ok-push.ensures.items, w.self-inside-is) (placed_more w.resize.new.self.items es (rw w.in_ok-resize.ensures.items wide) c.args.number c.len-2.result c.args.value absent room here)
      | else-len-count w ↦
          let behind = rw w.self-inside-is at c.len-2.ensures in
          let here : c.len-2.result ≡ length es = omega arith in
          let room : c.args.number < length c.self.inside.places.items = omega arith in
          rw (c.in_ok-push.ensures.items, w.self-inside-is) (placed_more c.self.inside.places.items es c.self.invariant c.args.number c.len-2.result c.args.value absent room here)
    ]

pub returns-clause-pushed : goal.returns-clause-pushed
returns-clause-pushed c =
    let old : c.if-len-count.self-inside.entries.items ≡ c.args.self.now = elim c.if-len-count.branch [
      | then-len-count+in_ok-resize w ↦ rw w.self-inside-is c.self.view_is
      | else-len-count w ↦ rw w.self-inside-is c.self.view_is
    ] in
    rw (c.in_ok-push.ensures.items, old) refl

pub returns-clause-differ : goal.returns-clause-differ
returns-clause-differ c = placed_differ (set c.if-len-count.self-inside.places.items c.args.number c.len-2.result) c.push.new.self.items (invariant_of-self-2 c)

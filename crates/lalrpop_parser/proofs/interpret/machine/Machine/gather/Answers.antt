use Rattle.std.proofs.Common.{◌≡◌, ◌+◌, ◌-◌, ◌<◌, ◌++◌, [], ◌∷◌, length, take, drop, map, get_or, refl, sym, ap, ap₂, ◌∙◌, arith}
use Rattle.std.proofs.lemmas.Option.{slice_get_read}
use Rattle.std.specs.Prelude.{slice_get, Some}
use Rattle.lalrpop_base.specs.Words.{Node, trees_of}
use Rattle.lalrpop_parser.specs.Words.{numbers, tree_of}
use Rattle.lalrpop_parser.specs.declared.interpret.tree.ParseTree.TheOpen as Open
use Rattle.lalrpop_parser.specs.declared.interpret.tree.ParseTree.TheViews.{roll-ParseTree}
use denote.Hole.Carrier.{roll}
use Rattle.lalrpop_parser.proofs.theory.trees.TreeViews.{tree_of_roll}
use Rattle.lalrpop_parser.proofs.theory.runs.Popping.{reduced_trees, numbers_left, topped, stands_in}
use Rattle.lalrpop_parser.proofs.interpret.machine.Machine.gather.Goals as goal

pub returns-clause-gathered : goal.returns-clause-gathered
unfolding roll-ParseTree roll
returns-clause-gathered c =
    let trees = c.args.self.now.trees.items in
    let n = length c.args.production.now.symbols in
    let at : c.len.result - c.len-count.result ≡ length trees - n = omega arith in
    let children : c.in_ok-children.children.items ≡ drop (length trees - n) trees = c.in_ok-children.ensures.tail ∙ ap (λ k. drop k trees) at in
    let kept : c.split_off.new.self.items ≡ take (length trees - n) trees = c.in_ok-children.ensures.items ∙ ap (λ k. take k trees) at in
    let made = roll-ParseTree (Open.Nonterminal c.in_ok-name.name c.in_ok-children.children) in
    let is : tree_of made ≡ Node c.args.production.now.nonterminal (trees_of (map tree_of (drop (length trees - n) trees))) =
    tree_of_roll (Open.Nonterminal c.in_ok-name.name c.in_ok-children.children) ∙ ap₂ (λ a cs. Node a (trees_of (map tree_of cs))) c.in_ok-name.ensures children in
    let gathered : c.push.new.self.items ≡ take (length trees - n) trees ++ made ∷ [] = c.in_ok-push.ensures.items ∙ ap (λ ts. ts ++ made ∷ []) kept in
    sym (reduced_trees c.args.production.now trees c.push.new.self.items made c.requires.trees is gathered)

pub returns-clause-popped : goal.returns-clause-popped
returns-clause-popped c =
    let below = c.args.self.now.below.items in
    let n = length c.args.production.now.symbols in
    let pushed : c.push-2.new.self.items ≡ below ++ c.args.self.now.state ∷ [] = c.in_ok-push-2.ensures.items in
    let at : c.len-2.result - c.len-count.result ≡ length below + 1 - n = omega (arith, c.in_ok-push-2.ensures.len) in
    let popped : c.truncate.new.self.items ≡ take (length below + 1 - n) (below ++ c.args.self.now.state ∷ []) =
    c.truncate.ensures.items ∙ ap₂ (λ k xs. take k xs) at pushed in
    ap numbers popped ∙ sym (numbers_left n below c.args.self.now.state c.requires.states)

pub returns-clause-top : goal.returns-clause-top
returns-clause-top c =
    let len : c.len-3.result ≡ length c.truncate.new.self.items = omega arith in
    let at : c.index.result.now ≡ get_or c.truncate.new.self.items (length c.truncate.new.self.items - 1) c.index.result.now = c.index.ensures ∙ ap (λ k. get_or c.truncate.new.self.items (k - 1) c.index.result.now) len in
    let some : 0 < length c.truncate.new.self.items = omega (arith, c.in_ok-push-2.ensures.len, c.truncate.ensures.len) in
    topped c.truncate.new.self.items c.index.result.now some at

pub returns-clause-from : goal.returns-clause-from
returns-clause-from c =
    let below = c.args.self.now.below.items in
    let stack = c.truncate.new.self.items in
    let pushed : c.push-2.new.self.items ≡ below ++ c.args.self.now.state ∷ [] = c.in_ok-push-2.ensures.items in
    let len : c.len-3.result ≡ length c.truncate.new.self.items = omega arith in
    let at : c.index.result.now ≡ get_or stack (length stack - 1) c.index.result.now = c.index.ensures ∙ ap (λ k. get_or c.truncate.new.self.items (k - 1) c.index.result.now) len in
    let some : length stack - 1 < length stack = omega (arith, c.in_ok-push-2.ensures.len, c.truncate.ensures.len) in
    let there : slice_get stack (length stack - 1) ≡ Some c.index.result.now = slice_get_read stack (length stack) (length stack - 1) c.index.result.now refl some at in
    let popped : stack ≡ take (c.len-2.result - c.len-count.result) (below ++ c.args.self.now.state ∷ []) = c.truncate.ensures.items ∙ ap (λ xs. take (c.len-2.result - c.len-count.result) xs) pushed in
    (length stack - 1, stands_in (c.len-2.result - c.len-count.result) (below ++ c.args.self.now.state ∷ []) (length stack - 1) c.index.result.now (ap (λ xs. slice_get xs (length stack - 1)) (sym popped) ∙ there))

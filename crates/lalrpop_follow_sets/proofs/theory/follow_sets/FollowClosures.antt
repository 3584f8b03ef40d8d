-- Items of closed states: those with the dot at the start, those to which nonterminals expand, and
-- those to which walks over right sides lead.
use Rattle.std.proofs.Common.{◌≡◌, inl, inr, ℕ, zero, suc, ◌≤◌, List, take, length, refl, sym, ◌∙◌, ap, subst, arith, Some}
use Rattle.lalrpop_base.specs.Words.{AreClosed, at_zero, Contents, expanded, in_kernel, InClosure, IsAtStart, IsMoved, IsReached, items_of, leads, state_from}
use Rattle.lalrpop_follow_sets.specs.Words.{LeadsOver}
use Rattle.lalrpop_follow_sets.specs.follow_sets.FollowNodes.{AreAllReached, AreExpanded, IsBegunBy}
use Rattle.lalrpop_base.specs.Words.{IsBehindDot}
use Rattle.lalrpop_grammar.specs.closures.Closures.{over_edge}
use Rattle.std.specs.Prelude.{Contains}
use Rattle.lalrpop_follow_sets.proofs.Types.{NonterminalString, Production, Symbol}
use Rattle.lalrpop_grammar.specs.declared.repr.Symbol.TheVariants.{Nonterminal}
use Rattle.lalrpop_collections.proofs.theory.lists.Lists.{take_past, same_some}
use Rattle.lr1_theory.proofs.theory.closures.Closures.{state_from-last}
use Rattle.lalrpop_follow_sets.proofs.theory.follow_sets.FollowSets.{take_none, symbol_behind}

module _ (g : List Production) (start : NonterminalString) (states : ℕ → Contents) (closed : AreClosed g start states) where
  -- the items of state 0 with the dot at the start
  front_zero : {q : Production} {dot : ℕ} → InClosure g (IsAtStart g start) q dot → IsBegunBy start states 0 q
  front_zero (in_kernel k) = inl (refl, k.2)
  front_zero (expanded {p} {dot} q after c b h) = inr (record { production = p; dot = dot; after = after; item = (closed.first p dot).1 c; behind = b })

  -- the items of a target with the dot at the start
  front_next : (n m : ℕ) (x : Symbol) → leads (states n) x ≡ Some m → {q : Production} {dot : ℕ} → InClosure g (IsMoved (items_of states n) x) q dot → dot ≡ 0 → IsBegunBy start states m q
  front_next n m x e (in_kernel k) none = absurd (omega (arith, k.moved, none))
  front_next n m x e (expanded {p} {dot} q after c b h) none = inr (record { production = p; dot = dot; after = after; item = (closed.next n m x e p dot).1 c; behind = b })

  -- an item of a reached state with the dot at the start is of the start symbol in state 0, or its
  -- nonterminal is after a dot in the state
  pub front_begun : {n : ℕ} → IsReached states n → (q : Production) → items_of states n q 0 → IsBegunBy start states n q
  front_begun at_zero q h = front_zero ((closed.first q 0).0 h)
  front_begun (over_edge {n} m x r e) q h = front_next n m x e ((closed.next n m x e q 0).0 h) refl

  -- if a nonterminal is after a dot in a reached state, its productions with the dot at the start
  -- are items of the state
  pub front_expanded : {n : ℕ} → IsReached states n → (q : Production) → Contains g q → IsBehindDot (states n) (Nonterminal q.nonterminal) → items_of states n q 0
  front_expanded at_zero q own b = (closed.first q 0).1 (expanded q b.after ((closed.first b.production b.dot).0 b.item) b.behind own)
  front_expanded (over_edge {n} m x r e) q own b = (closed.next n m x e q 0).1 (expanded q b.after ((closed.next n m x e b.production b.dot).0 b.item) b.behind own)

  -- reached states are expanded
  pub reached_expanded : (count : ℕ) → AreAllReached states count → AreExpanded g start states count
  reached_expanded count reached n l = record { begun = front_begun (reached n l); expanded = front_expanded (reached n l) }

  -- the productions of the start symbol with the dot at the start are items of state 0
  pub front_started : (q : Production) → Contains g q → q.nonterminal ≡ start → items_of states 0 q 0
  front_started q own same = (closed.first q 0).1 (in_kernel (refl, own, same))

  -- a walk over the symbols before a dot leads to the item with that dot
  pub walked_item : (r : ℕ) (q : Production) (dot s : ℕ) → dot ≤ length q.symbols → LeadsOver states r (take dot q.symbols) s → items_of states r q 0 → items_of states s q dot
  walked_item r q zero s within leads_over item = subst (λ (n : ℕ). items_of states n q 0) (same_some (sym (ap (state_from states r) (take_none q.symbols)) ∙ leads_over)) item
  walked_item r q (suc dot) s within leads_over item =
      let x = symbol_behind dot q.symbols (omega (arith, within)) in
      let last = state_from-last states r (take dot q.symbols) x.0 s (sym (ap (state_from states r) (take_past dot q.symbols x.2)) ∙ leads_over) in
      (closed.next last.0 s x.0 last.2 q (suc dot)).1 (in_kernel (record { before = dot; after = x.1; moved = refl; item = walked_item r q dot last.0 (omega (arith, within)) last.1 item; behind = x.2 }))

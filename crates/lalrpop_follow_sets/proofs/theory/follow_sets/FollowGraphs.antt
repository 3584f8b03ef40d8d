-- The least sets of a follow graph are the follow sets, and their unions are the lookahead sets.
use Rattle.std.proofs.Common.{◌↔◌, ℕ, ◌<◌, ◌≤◌, take, List, length, refl, sym, ◌∙◌, ap, subst, arith, Some, zero, suc, [], ◌∷◌}
use Rattle.std.specs.Prelude.{Contains}
use Rattle.std.specs.declared.alloc.Global.{Global}
use Rattle.std.specs.declared.vec.Vec.{Vec}
use Rattle.lalrpop_base.specs.Words.{Bits, IsBitOf, Contents, state_from, Rules, HoldsBit, IsSpread, held, sent_on, edge_ends}
use Rattle.lalrpop_follow_sets.proofs.Types.{NonterminalString, Production, Token}
use Rattle.lalrpop_states.proofs.theory.states.ContentsViews.{LeadAsItemsSay}
use Rattle.lalrpop_collections.proofs.theory.lists.Lists.{take_past, take_all, same_some}
use Rattle.lr1_theory.proofs.theory.closures.Closures.{state_from-last}
use Rattle.lalrpop_follow_sets.proofs.theory.follow_sets.FollowSets.{take_none, symbol_behind, within}
use Rattle.lalrpop_follow_sets.specs.Words.{LeadsOver, IncludesFollow, InFollow, at_once, included, HasLookaheadBits}
use Rattle.lalrpop_follow_sets.specs.Words.{IsFollowNode, IsFollowGraph, IsUnionOver, HasLookbackNodes, HaveNodesAtStart}

-- a number below the count has its node
node_there : (nodes : List (ℕ × NonterminalString)) (n : ℕ) → n < length nodes → (s : ℕ) × (a : NonterminalString) × IsFollowNode nodes n s a
node_there [] n l = absurd (omega (arith, l))
node_there (x ∷ nodes) zero l = (x.0, x.1, refl)
node_there (x ∷ nodes) (suc n) l = node_there nodes n (omega (arith, l))

-- a number from which an edge leads has a list of edges
begins_within : (edges : List (Vec ℕ Global)) (m n : ℕ) → Contains (edge_ends edges m) n → m < length edges
begins_within [] m n h = absurd (omega (arith, h.1))
begins_within (ends ∷ edges) zero n h = omega arith
begins_within (ends ∷ edges) (suc m) n h = omega (arith, begins_within edges m n h)

module _ (g : Rules) (start : NonterminalString) (states : ℕ → Contents) (nodes : List (ℕ × NonterminalString)) (sets : List Bits) (edges : List (Vec ℕ Global)) (graph : IsFollowGraph g start states nodes sets edges) where
  -- the bit of a token in the follow set
  abbrev FollowsBit : ℕ → NonterminalString → ℕ → Type 0
  FollowsBit s a bit = (t : Token) × IsBitOf g.terminals t bit × InFollow g.productions start states s a t

  -- the bits that are spread to a node are those of tokens in its follow set
  spread_follows : {n bit : ℕ} → IsSpread sets edges n bit → (s : ℕ) (a : NonterminalString) → IsFollowNode nodes n s a → FollowsBit s a bit
  spread_follows (held n bit h) s a node =
      let b = (graph.begun n s a node bit).0 h in
      (b.0, b.1, at_once b.2)
  spread_follows (sent_on m n bit edge k) s a node =
      let o = node_there nodes m (omega (arith, begins_within edges m n edge, graph.counted)) in
      let f = spread_follows k o.0 o.1 o.2 in
      (f.0, f.1, included (graph.edges_include m n o.0 s o.1 a o.2 node edge) f.2)

  -- the bits of tokens in the follow set of a node are spread to it
  follow_spread : {s : ℕ} {a : NonterminalString} {t : Token} → InFollow g.productions start states s a t → (bit : ℕ) → IsBitOf g.terminals t bit → (n : ℕ) → IsFollowNode nodes n s a → IsSpread sets edges n bit
  follow_spread (at_once {s} {a} {t} h) bit number n node = held n bit ((graph.begun n s a node bit).1 (t, number, h))
  follow_spread (included {r} {s} {a} {b} {t} i f) bit number n node =
      let o = graph.included_edges n s r a b node i in
      sent_on o.0 n bit o.2 (follow_spread f bit number o.0 o.1)

  -- the union of the least sets over the nodes of a production is its lookahead set
  pub union_lookahead : (spread : List Bits) → ((n bit : ℕ) → HoldsBit spread n bit ↔ IsSpread sets edges n bit) → (s : ℕ) (p : Production) (set : Bits) → HasLookbackNodes g start states nodes s p → IsUnionOver g start states nodes spread s p set → HasLookaheadBits g start states s set p
  union_lookahead spread least s p set origins union bit = (
    λ h.
        let u = (union bit).0 h in
        let f = spread_follows ((least u.0 bit).0 u.4) u.1 p.nonterminal u.2 in
        (f.0, f.1, record { from = u.1; leads = u.3; follows = f.2 }),
    λ f.
        let l = f.2 in
        let o = origins l.from l.leads in
        (union bit).1 (o.0, l.from, o.1, l.leads, (least o.0 bit).1 (follow_spread l.follows bit f.1 o.0 o.1)),
  )

-- ---- nodes of items with the dot at the start
module _ (states : ℕ → Contents) (count : ℕ) (say : LeadAsItemsSay states count) where
  -- if the symbols before an item's dot lead from a state to the item's state, that state has the
  -- same item with the dot at the start
  pub origin_item : (r : ℕ) (q : Production) (dot s : ℕ) → dot ≤ length q.symbols → Contains (states s).items (q, dot) → LeadsOver states r (take dot q.symbols) s → Contains (states r).items (q, 0)
  origin_item r q zero s within item leads_over = subst (λ (n : ℕ). Contains (states n).items (q, 0)) (same_some (sym (sym (ap (state_from states r) (take_none q.symbols)) ∙ leads_over))) item
  origin_item r q (suc dot) s within item leads_over =
      let x = symbol_behind dot q.symbols (omega (arith, within)) in
      let last = state_from-last states r (take dot q.symbols) x.0 s (sym (ap (state_from states r) (take_past dot q.symbols x.2)) ∙ leads_over) in
      origin_item r q dot last.0 (omega (arith, within)) ((say.edges last.0 s x.0 last.2).origin q dot item) last.1

  -- a finished item has its nodes
  pub lookback_nodes : (g : Rules) (start : NonterminalString) (nodes : List (ℕ × NonterminalString)) → HaveNodesAtStart states nodes → (s : ℕ) (p : Production) → Contains (states s).items (p, length p.symbols) → HasLookbackNodes g start states nodes s p
  lookback_nodes g start nodes begun s p item r leads_over = begun r p (origin_item r p (length p.symbols) s (omega arith) item (ap (state_from states r) (take_all p.symbols) ∙ leads_over))

  -- each follow set that a node includes has a node
  pub included_node : (productions : List Production) (nodes : List (ℕ × NonterminalString)) → HaveNodesAtStart states nodes → (s r : ℕ) (a b : NonterminalString) → IncludesFollow productions states s a r b → (m : ℕ) × IsFollowNode nodes m r b
  included_node productions nodes begun s r a b i =
      let m = begun r i.parent (origin_item r i.parent i.dot s (within i.dot (i.parent).symbols i.behind) i.item i.leads) in
      (m.0, m.1 ∙ ap (λ (c : NonterminalString). Some (r, c)) i.own)

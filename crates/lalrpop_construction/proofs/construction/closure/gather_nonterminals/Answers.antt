use Rattle.std.proofs.Common.{rules, arith, ◌≡◌, ◌∙◌, ◌<◌, ◌++◌, ◌∷◌, [], ℕ, ap, sym, subst, append-nil, append_assoc, List}
use Rattle.std.specs.Prelude.{Contains}
use Rattle.std.proofs.lemmas.Grind.{common_steps, flat_map-append}
use Rattle.std.proofs.lemmas.List.{map-append, nil_from_length}
use Rattle.std.proofs.lemmas.List.Elements.{Contains-append_right}
use Rattle.lalrpop_base.specs.Words.{Bits, readings}
use Rattle.lalrpop_construction.specs.Words.{vec_items_at, unfolded, with_tokens}
use Rattle.lalrpop_collections.specs.lists.Entries.{GathersMore}
use Rattle.lalrpop_collections.proofs.theory.lists.Gathering.{More-then}
use Rattle.lalrpop_collections.proofs.theory.lists.Members.{contains_head, contains_map}
use Rattle.lalrpop_construction.proofs.theory.closures.Unfolded.{list_read}
use Rattle.lalrpop_construction.proofs.construction.closure.gather_nonterminals.Goals as goal

pub index-requires : goal.index-requires
index-requires g c =
    let xs : List (ℕ × g.row.L.Denot) = c.args.shared.items in
    let e : ℕ × g.row.L.Denot = (c.in-Some.symbol, c.in-Some.tokens) in
    let read : ℕ × g.row.L.Denot → ℕ × Bits = λ e. (e.0, g.L.Lookahead.meaning e.1) in
    let among : Contains xs e = subst (λ (es : List (ℕ × g.row.L.Denot)). Contains es e) c.loop-symbol.invariant.left
    (Contains-append_right c.loop-symbol.yielded c.loop-symbol.symbol-iterator.rest.items e
    (subst (λ (es : List (ℕ × g.row.L.Denot)). Contains es e) (sym (c.in-Some.ensures.steps.0)) (contains_head e c.next.new.self.rest.items))) in
    subst (λ (k : ℕ). e.0 < k) (sym c.args.numbers.now.expansions.ok.0) (c.requires (read e) (contains_map read xs e among))

pub loop-symbol-preserved : goal.loop-symbol-preserved
loop-symbol-preserved g c =
    let m = g.L.Lookahead.meaning in
    let n = c.args.numbers.now in
    let e : ℕ × g.row.L.Denot = (c.in-Some.symbol, c.in-Some.tokens) in
    let read : ℕ × g.row.L.Denot → ℕ × Bits = λ e. (e.0, m e.1) in
    let expansions : ℕ × Bits → List (ℕ × Bits) = λ e. with_tokens e.1 (vec_items_at n.expansions.items e.0) in
    let taken : List (ℕ × g.row.L.Denot) = c.loop-symbol.yielded in
    let rest : List (ℕ × g.row.L.Denot) = c.next.new.self.rest.items in
    let split : taken ++ (e ∷ rest) ≡ c.args.shared.items = subst (λ (es : List (ℕ × g.row.L.Denot)). taken ++ es ≡ c.args.shared.items) (c.in-Some.ensures.steps.0) c.loop-symbol.invariant.left in
    let among : Contains c.args.shared.items e = subst (λ (es : List (ℕ × g.row.L.Denot)). Contains es e) split (Contains-append_right taken (e ∷ rest) e (contains_head e rest)) in
    let known = c.requires (read e) (contains_map read c.args.shared.items e among) in
    let list : vec_items_at n.expansions.items e.0 ≡ c.deref.result.now = list_read n.expansions.items e.0 c.index.result.now known c.index.ensures ∙ sym c.deref.ensures.value in
    let before : List (ℕ × Bits) = readings m taken in
    let more : unfolded n (readings m (taken ++ e ∷ [])) ≡ unfolded n before ++ with_tokens (m e.1) c.deref.result.now =
    ap (unfolded n) (map-append read taken (e ∷ []))
    ∙ flat_map-append expansions before (read e ∷ [])
    ∙ ap (λ (fs : List (ℕ × Bits)). unfolded n before ++ fs) (append-nil (expansions (read e)) ∙ ap (with_tokens (m e.1)) list) in
    record {
      gathered = subst (λ (fs : List (ℕ × Bits)). GathersMore fs (readings m c.args.table.now) (readings m c.gather_expansions.new.table)) (sym more)
          (More-then (unfolded n before) (with_tokens (m e.1) c.deref.result.now) _ _ _ c.loop-symbol.invariant.gathered c.in_ok-gather_expansions.ensures);
      left = append_assoc taken (e ∷ []) rest ∙ split;
    }

pub returns : goal.returns
returns g c =
    let m = g.L.Lookahead.meaning in
    let none : c.loop-symbol.symbol-iterator.rest.items ≡ [] = first_of (search rules, grind (arith, common_steps), grind (arith, common_steps, nil_from_length c.loop-symbol.symbol-iterator.rest.items)) in
    let all : c.loop-symbol.yielded ≡ c.args.shared.items = sym (append-nil c.loop-symbol.yielded) ∙ subst (λ (es : List (ℕ × g.row.L.Denot)). c.loop-symbol.yielded ++ es ≡ c.args.shared.items) none c.loop-symbol.invariant.left in
    subst (λ (es : List (ℕ × g.row.L.Denot)). GathersMore (unfolded c.args.numbers.now (readings m es)) (readings m c.args.table.now) (readings m c.loop-symbol.table)) all c.loop-symbol.invariant.gathered

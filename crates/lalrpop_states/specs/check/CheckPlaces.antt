-- Places for which `==` returns true are the same.
use Rattle.std.specs.Prelude.{◌≡◌, ℕ, Bool, true, ◌==◌, ◌&&◌}
use Rattle.std.proofs.Common.{ap, ◌∙◌, eqb-true}
use Rattle.lalrpop_collections.specs.lists.Exact.{Exactly, both}
use Rattle.lalrpop_states.specs.states.Items.{Dotted}
use Rattle.lalrpop_states.specs.declared.lookahead.nil.Nil.{Nil}
use Rattle.lalrpop_states.specs.declared.lr1_core.place.Place.{Place}

-- places with equal states and equal items are the same
pub place_exact : (E : Dotted Nil → Dotted Nil → Bool) → Exactly E → (a b : Place) → ((a.state == b.state) && E a.item b.item) ≡ true → a ≡ b
place_exact E exact a b h =
    let make : ℕ → Dotted Nil → Place = λ n i. record { state = n; item = i } in
    let parts = both (a.state == b.state) (E a.item b.item) h in
    ap (λ n. make n a.item) (eqb-true _ _ parts.0) ∙ ap (λ i. make b.state i) (exact _ _ parts.1)

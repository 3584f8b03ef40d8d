use Rattle.std.proofs.Common.{rules, ◌≡◌, ◌∙◌, ◌++◌, ℕ, refl, codes, string_bytes}
use Rattle.std.specs.Fmt.{decimal}
use Rattle.table_data.specs.States.{lookahead_json}
use Rattle.table_data.proofs.Loops.{before, grew_by}
use Rattle.table_data.proofs.states.Lr1ItemToJson.push_json.Goals as goal

pub returns : goal.returns
returns c =
    let number : c.self.inside.production.now.action.0 ≡ c.args.self.now.production.action.0 = search rules in
    let dot : c.self.inside.index ≡ c.args.self.now.index = search rules in
    before (string_bytes c.args.text.now) (codes "{\"production\":" ++ decimal c.args.self.now.production.action.0) _ _ (string_bytes c.push_number.new.text) _ (grew_by (λ (n : ℕ). codes "{\"production\":" ++ decimal n) _ _ _ _ c.in_ok-push_number.ensures (c.index.ensures ∙ number)) (
    before (string_bytes c.push_number.new.text) (codes ",\"dot\":" ++ decimal c.args.self.now.index) _ _ (string_bytes c.push_number-2.new.text) _ (grew_by (λ (n : ℕ). codes ",\"dot\":" ++ decimal n) _ _ _ _ c.in_ok-push_number-2.ensures dot) (
    before (string_bytes c.push_number-2.new.text) (codes ",\"lookahead\":") _ _ (string_bytes c.push_str.new.self) _ c.in_ok-push_str.ensures.bytes (
    before (string_bytes c.push_str.new.self) (lookahead_json c.args.naming.now.terminals.now c.args.naming.now.sets c.args.self.now.lookahead) _ _ (string_bytes c.push_lookahead.new.text) _ (search (rules, c.in_ok-push_lookahead.ensures)) (
    c.in_ok-push_str-2.ensures.bytes) refl) refl) refl) refl

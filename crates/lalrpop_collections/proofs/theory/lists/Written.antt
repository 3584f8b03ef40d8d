-- Texts that are written piece by piece, in any style.
use Rattle.std.proofs.Common.{◌≡◌, ℕ, List, [], ◌∷◌, ◌++◌, refl, sym, ap, subst, ◌∙◌, append_assoc}
use Rattle.std.specs.Fmt.{HasWrittenStyled, WritesInCalls}
use Rattle.std.specs.Fmt.InlineText.{IsIntact, AppendsIfIntact, inline_text}
use Rattle.std.specs.List.{FoldsTo, concat}
use Rattle.std.proofs.lemmas.List.{append-nil}
use Rattle.std.specs.declared.fmt.Formatter.{Formatter}
use Rattle.std.specs.declared.fmt.InlineText.{InlineText}

both_lists : (xs ys : List (List ℕ)) → concat (xs ++ ys) ≡ concat xs ++ concat ys
both_lists [] ys = refl
both_lists (x ∷ xs) ys = ap (λ t. x ++ t) (both_lists xs ys) ∙ sym (append_assoc x (concat xs) (concat ys))

module _ {W : Type 0} (took : W → List ℕ → W → Type 0) where
  calls_then : (w : W) (xs : List (List ℕ)) (v : W) (ys : List (List ℕ)) (u : W) → FoldsTo took w xs v → FoldsTo took v ys u → FoldsTo took w (xs ++ ys) u
  calls_then w [] v ys u p q = subst (λ (x : W). FoldsTo took x ys u) (sym p) q
  calls_then w (x ∷ xs) v ys u p q = (p.0, p.1, calls_then p.0 xs v ys u p.2 q)

  -- one text, and then another
  pub written_then : (f : Formatter W) (a : List ℕ) (g : Formatter W) (b : List ℕ) (h : Formatter W) → HasWrittenStyled took f a g → HasWrittenStyled took g b h → HasWrittenStyled took f (a ++ b) h
  written_then f a g b h p q = record {
    wrote = record {
      parts = p.wrote.parts ++ q.wrote.parts;
      calls = calls_then f.writer p.wrote.parts g.writer q.wrote.parts h.writer p.wrote.calls q.wrote.calls;
      whole = both_lists p.wrote.parts q.wrote.parts ∙ ap (λ t. t ++ concat q.wrote.parts) p.wrote.whole ∙ ap (λ t. a ++ t) q.wrote.whole;
    };
    spec = q.spec ∙ p.spec;
    flush = q.flush;
  }

-- a text of fixed size after some calls has the pieces of these
inline_calls : {n : ℕ} (t : InlineText n) (parts : List (List ℕ)) (u : InlineText n) → IsIntact t → FoldsTo AppendsIfIntact t parts u → inline_text u ≡ inline_text t ++ concat parts
inline_calls t [] u intact p = ap inline_text (sym p) ∙ sym (append-nil (inline_text t))
inline_calls t (x ∷ parts) u intact p = let one = p.1 intact in
    inline_calls p.0 parts u one.0 p.2 ∙ ap (λ s. s ++ concat parts) one.1 ∙ append_assoc (inline_text t) x (concat parts)

-- an empty text of fixed size, after a text is written to it, is that text
pub inline_written : {n : ℕ} (t : InlineText n) (bs : List ℕ) (u : InlineText n) → IsIntact t → inline_text t ≡ [] → WritesInCalls AppendsIfIntact t bs u → inline_text u ≡ bs
inline_written t bs u intact empty p = inline_calls t p.parts u intact p.calls ∙ ap (λ s. s ++ concat p.parts) empty ∙ p.whole

-- The first cell that is denied, found along the cells.
use Rattle.std.proofs.Common.{◌≡◌, List, [], ◌∷◌, ◌++◌, inl, inr, Some, None, unwrap_or, refl, sym, ap, ◌∙◌}
use Rattle.vx_geom.specs.declared.pos.Pos.{Pos}
use Rattle.vx_region.specs.Regions.{Regions}
use Rattle.vx_decide.specs.declared.rule.Rule.{Rule}
use Rattle.vx_decide.specs.declared.verdict.Verdict.{Verdict}
use Rattle.vx_decide.specs.declared.verdict.Verdict.TheVariants.{Permit, Deny}
use Rattle.vx_power.specs.Walks.{IsAmong}
use Rattle.vx_cause.specs.Judging.{pushing_verdict, denied_at, first_denied}
use Rattle.vx_cause.specs.Laws.{IsPermit, IsFirstDenied}

module _ (rs : Regions) (q : Pos) where
  abbrev said : Pos → Verdict
  said p = pushing_verdict rs q p

  first_at : (r : Pos) (ps : List Pos) (v : Verdict) → said r ≡ v → (p : Pos) (rule : Rule)
      → (first_denied rs q ps ≡ Some (p, rule) → IsFirstDenied rs q ps p rule)
      → denied_at r v (first_denied rs q ps) ≡ Some (p, rule) → IsFirstDenied rs q (r ∷ ps) p rule
  first_at r ps (Deny found) here p rule later is =
      let same : (r, found) ≡ (p, rule) = ap (λ o. unwrap_or o (p, rule)) is in
      record {
        before = [];
        after = ps;
        parts = ap (λ t. t.0 ∷ ps) same;
        denied = sym (ap (λ t. said t.0) same) ∙ here ∙ ap (λ t. Deny t.1) same;
        others = λ s none. absurd none;
      }
  first_at r ps (Permit found) here p rule later is =
      let rest = later is in
      record {
        before = r ∷ rest.before;
        after = rest.after;
        parts = ap (λ xs. r ∷ xs) rest.parts;
        denied = rest.denied;
        others = λ s among. elim among [
          | inl same ↦ (found, sym (ap said same) ∙ here)
          | inr more ↦ rest.others s more
        ];
      }

  -- what is found is the first
  pub first_found : (ps : List Pos) (p : Pos) (rule : Rule)
      → first_denied rs q ps ≡ Some (p, rule) → IsFirstDenied rs q ps p rule
  unfolding first_denied
  first_found [] p rule none = cc
  first_found (r ∷ ps) p rule is = first_at r ps (said r) refl p rule (first_found ps p rule) is

  -- the first is found
  pub first_is_found : (before after : List Pos) (p : Pos) (rule : Rule) → said p ≡ Deny rule
      → ((r : Pos) → IsAmong before r → IsPermit (said r))
      → first_denied rs q (before ++ (p ∷ after)) ≡ Some (p, rule)
  unfolding first_denied
  first_is_found [] after p rule denied others =
      ap (λ v. denied_at p v (first_denied rs q after)) denied
  first_is_found (r ∷ before) after p rule denied others =
      ap (λ v. denied_at r v (first_denied rs q (before ++ (p ∷ after)))) (others r (inl refl)).1
      ∙ first_is_found before after p rule denied (λ s more. others s (inr more))

  permitted_at : (r : Pos) (ps : List Pos) (v : Verdict) → said r ≡ v → (p : Pos)
      → (first_denied rs q ps ≡ None → IsAmong ps p → IsPermit (said p))
      → denied_at r v (first_denied rs q ps) ≡ None → IsAmong (r ∷ ps) p → IsPermit (said p)
  permitted_at r ps (Deny found) here p later none among = cc
  permitted_at r ps (Permit found) here p later none (inl same) =
      (found, sym (ap said same) ∙ here)
  permitted_at r ps (Permit found) here p later none (inr more) = later none more

  -- where none is found each is permitted
  pub each_permitted : (ps : List Pos) (p : Pos) → first_denied rs q ps ≡ None → IsAmong ps p
      → IsPermit (said p)
  unfolding first_denied
  each_permitted [] p none among = absurd among
  each_permitted (r ∷ ps) p none among =
      permitted_at r ps (said r) refl p (each_permitted ps p) none among

  -- and where each is permitted none is found
  pub none_found : (ps : List Pos) → ((p : Pos) → IsAmong ps p → IsPermit (said p))
      → first_denied rs q ps ≡ None
  unfolding first_denied
  none_found [] each = refl
  none_found (r ∷ ps) each =
      ap (λ v. denied_at r v (first_denied rs q ps)) (each r (inl refl)).1
      ∙ none_found ps (λ p more. each p (inr more))

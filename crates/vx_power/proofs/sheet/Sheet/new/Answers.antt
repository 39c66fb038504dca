use Rattle.std.proofs.Common.{◌≡◌, ℕ, ◌≤◌, length, get_or, replicate, sym, ap, subst, ◌∙◌, arith}
use Rattle.std.proofs.lemmas.List.{length-replicate}
use Rattle.vx_marks.proofs.Marking.{zero_at}
use Rattle.vx_power.specs.Levels.{columns}
use Rattle.vx_power.proofs.Tables.{no_level}
use Rattle.vx_power.proofs.sheet.Sheet.new.Goals as goal

pub invariant_of-result : goal.invariant_of-result
invariant_of-result c =
    let zeros : c.in_ok-vec.field-0.items ≡ replicate columns 0 = c.in_ok-vec.ensures.items_if_clones_equal (λ y e. e) in
    record {
      whole = ap (λ sheet. length sheet) zeros ∙ length-replicate {A = ℕ} columns 0;
      most = λ i. subst (λ v. v ≤ 15) (sym (ap (λ sheet. get_or sheet i 0) zeros ∙ zero_at columns i 0)) (omega arith);
    }

pub returns : goal.returns
returns c =
    let zeros : c.in_ok-vec.field-0.items ≡ replicate columns 0 = c.in_ok-vec.ensures.items_if_clones_equal (λ y e. e) in
    no_level c.in_ok-vec.field-0.items (λ i. ap (λ sheet. get_or sheet i 0) zeros ∙ zero_at columns i 0)

use Rattle.std.proofs.Common.{◌≡◌, ◌+◌, ◌<◌, true, None, Some, IfSome, Option, option_map, ap, sym, ◌∙◌, subst, arith, rules, ℕ}
use Rattle.std.specs.Prelude.{string_bytes}
use Rattle.vx_geom.specs.Written.{written, outline_asked}
use Rattle.vx_index.specs.Shapes.{shape_at}
use Rattle.vx_region.specs.declared.region_no.RegionNo.{RegionNo}
use Rattle.vx_policy.specs.Asked.{Asked, Define, Reshape, Remove, asked}
use Rattle.vx_policy.specs.Edits.{edited}
use Rattle.vx_policy.specs.Outlines.{ShapesStayBut, shape_given}
use Rattle.vx_policy.specs.Refusals.{last_number, numbered, refusal}
use Rattle.vx_policy.specs.declared.edit.Edit.{Edit}
use Rattle.vx_policy.proofs.Accepted.{room_left}
use Rattle.vx_policy.proofs.Outlining.{at_some, keeps_shapes, others_kept, defined, defined_shape, reshaped_one, reshaped_shape, removed_one, removed_shape}
use Rattle.vx_policy.proofs.reshaped.reshaped.Goals as goal

-- a number is left for a definition
pub overflow_add-result : goal.overflow_add-result
overflow_add-result c =
    let before = c.args.regions.now in
    let id = string_bytes c.in-Define.field-0 in
    let shape = written c.in-Define.field-1 in
    let none : refusal before (Define id shape) ≡ None = sym (ap (λ (e : Edit). refusal before (asked e)) c.in-Define.is) ∙ c.requires in
    let room : before.last < last_number = room_left before id shape none in
    omega (arith, room, c.last.ensures)

-- what is so of the shapes after an edit is so after the one that was asked for
pub returns-in-Define-clause-others : goal.returns-in-Define-clause-others
returns-in-Define-clause-others c =
    let before = c.args.regions.now in
    let id = string_bytes c.in-Define.field-0 in
    let shape = written c.in-Define.field-1 in
    let is : Define id shape ≡ asked c.args.edit.now = sym (ap asked c.in-Define.is) in
    subst (λ (e : Asked). ShapesStayBut (Some (c.last.result + 1)) before (edited before e)) is
    (subst (λ n. ShapesStayBut (Some (n + 1)) before (edited before (Define id shape))) (sym c.last.ensures) (defined before id shape))

pub returns-in-Define-clause-this : goal.returns-in-Define-clause-this
returns-in-Define-clause-this c =
    let before = c.args.regions.now in
    let id = string_bytes c.in-Define.field-0 in
    let shape = written c.in-Define.field-1 in
    let is : Define id shape ≡ asked c.args.edit.now = sym (ap asked c.in-Define.is) in
    let none : refusal before (Define id shape) ≡ None = ap (refusal before) is ∙ c.requires in
    subst (λ (e : Asked). shape_at (edited before e) (c.last.result + 1) ≡ shape_given e) is
    (subst (λ n. shape_at (edited before (Define id shape)) (n + 1) ≡ outline_asked shape) (sym c.last.ensures)
    (defined_shape before id shape c.soundness.ensures.forest.numbered none))

pub returns-in-Reshape-clause-others : goal.returns-in-Reshape-clause-others
returns-in-Reshape-clause-others c =
    let before = c.args.regions.now in
    let id = string_bytes c.in-Reshape.id in
    let shape = written c.in-Reshape.field-1 in
    let is : Reshape id shape ≡ asked c.args.edit.now = sym (ap asked c.in-Reshape.is) in
    let number : numbered before id ≡ option_map (λ n. n.0) c.number_by_id.result =
    ap (numbered before) (sym c.deref.ensures) ∙ sym c.number_by_id.ensures in
    subst (λ (o : Option ℕ). ShapesStayBut o before (edited before (asked c.args.edit.now))) number
    (subst (λ (e : Asked). ShapesStayBut (numbered before id) before (edited before e)) is (reshaped_one before id shape))

pub returns-in-Reshape-clause-this : goal.returns-in-Reshape-clause-this
returns-in-Reshape-clause-this c =
    let before = c.args.regions.now in
    let id = string_bytes c.in-Reshape.id in
    let shape = written c.in-Reshape.field-1 in
    let is : Reshape id shape ≡ asked c.args.edit.now = sym (ap asked c.in-Reshape.is) in
    let none : refusal before (Reshape id shape) ≡ None = ap (refusal before) is ∙ c.requires in
    let number : option_map (λ (n : RegionNo). n.0) c.number_by_id.result ≡ numbered before id =
    c.number_by_id.ensures ∙ ap (numbered before) c.deref.ensures in
    subst (λ (e : Asked). IfSome c.number_by_id.result (λ n. shape_at (edited before e) n.0 ≡ shape_given e)) is
    (at_some (λ n. shape_at (edited before (Reshape id shape)) n ≡ outline_asked shape) c.number_by_id.result (numbered before id) number
    (λ n named. reshaped_shape before id shape n none named))

pub returns-in-Remove-clause-others : goal.returns-in-Remove-clause-others
returns-in-Remove-clause-others c =
    let before = c.args.regions.now in
    let id = string_bytes c.in-Remove.id in
    let is : Remove id ≡ asked c.args.edit.now = sym (ap asked c.in-Remove.is) in
    let number : numbered before id ≡ option_map (λ n. n.0) c.number_by_id-in-Remove.result =
    ap (numbered before) (sym c.deref-in-Remove.ensures) ∙ sym c.number_by_id-in-Remove.ensures in
    subst (λ (o : Option ℕ). ShapesStayBut o before (edited before (asked c.args.edit.now))) number
    (subst (λ (e : Asked). ShapesStayBut (numbered before id) before (edited before e)) is (removed_one before id))

pub returns-in-Remove-clause-this : goal.returns-in-Remove-clause-this
returns-in-Remove-clause-this c =
    let before = c.args.regions.now in
    let id = string_bytes c.in-Remove.id in
    let is : Remove id ≡ asked c.args.edit.now = sym (ap asked c.in-Remove.is) in
    let number : option_map (λ (n : RegionNo). n.0) c.number_by_id-in-Remove.result ≡ numbered before id =
    c.number_by_id-in-Remove.ensures ∙ ap (numbered before) c.deref-in-Remove.ensures in
    subst (λ (e : Asked). IfSome c.number_by_id-in-Remove.result (λ n. shape_at (edited before e) n.0 ≡ shape_given e)) is
    (at_some (λ n. shape_at (edited before (Remove id)) n ≡ None) c.number_by_id-in-Remove.result (numbered before id) number
    (λ n named. removed_shape before id n named))

-- an edit of another kind
pub returns-in_default-clause-others : goal.returns-in_default-clause-others
returns-in_default-clause-others c =
    let other : keeps_shapes (asked c.args.edit.now) ≡ true = search rules in
    others_kept c.args.regions.now (asked c.args.edit.now) None other

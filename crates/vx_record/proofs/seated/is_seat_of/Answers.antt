use Rattle.std.proofs.Common.{◌≡◌, List, ℕ, Option, Some, None, length, map, refl, ap, sym, ◌∙◌}
use Rattle.std.specs.List.{slice_get}
use Rattle.std.specs.Option.{option_map}
use Rattle.std.specs.Cmp.Lexicographic.{pointwise_decides}
use Rattle.std.proofs.lemmas.Bool.{false≢true}
use Rattle.std.proofs.lemmas.Bool.Decides.{Decides-at, Decides-eqb, Decides-like}
use Rattle.std.proofs.lemmas.Option.{slice_get-map, slice_get_read, slice_get_past, same_Some, none-some}
use Rattle.vx_name.specs.declared.name.Name.{Name}
use Rattle.vx_record.proofs.seated.is_seat_of.Goals as goal

abbrev text_in : Name → List ℕ
text_in name = name.text.bytes

-- what is found among the names is found among their texts
found : (texts : List (List ℕ)) (names : List Name) (number k : ℕ) (o : Option Name)
    → map text_in names ≡ texts → k ≡ number → slice_get names k ≡ o
    → slice_get texts number ≡ option_map text_in o
found texts names number k o same there is =
    ap (λ ts. slice_get ts number) (sym same) ∙ ap (slice_get (map text_in names)) (sym there)
    ∙ slice_get-map text_in names k ∙ ap (option_map text_in) is

pub returns-in-Some : goal.returns-in-Some
returns-in-Some c =
    let names = c.names.result.now in
    let k = c.from.result in
    let name = c.in-Some.name.now in
    let at = slice_get_read names (length names) k name refl c.in-Some.ensures.lookup.3.0 c.in-Some.ensures.lookup.1 in
    let there = found _ names _ k (Some name) c.names.ensures c.from.ensures at in
    Decides-like _ (λ same. there ∙ ap Some same) (λ seated. same_Some _ _ (sym there ∙ seated))
    (Decides-at _ _ c.eq.ensures (pointwise_decides Decides-eqb _ _))

pub returns-in-None : goal.returns-in-None
returns-in-None c =
    let names = c.names.result.now in
    let k = c.from.result in
    let none = found _ names _ k None c.names.ensures c.from.ensures (slice_get_past names k c.in-None.ensures.lookup.3) in (
      λ wrong. absurd (false≢true wrong),
      λ seated. absurd (none-some _ (sym none ∙ seated)),
    )

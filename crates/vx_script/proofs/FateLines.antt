-- The lines of fates, one after another.
use Rattle.std.proofs.Common.{◌≡◌, ℕ, ◌+◌, ◌<◌, List, [], ◌∷◌, ◌++◌, length, take, get_or, append_assoc, append-nil, sym, ap, ◌∙◌}
use Rattle.std.proofs.lemmas.List.{take_more}
use Rattle.vx_geom.specs.declared.pos.Pos.{Pos}
use Rattle.vx_tick.specs.declared.fate.Fate.{Fate}
use Rattle.vx_json.specs.Texts.{fate_text, line_text}
use Rattle.vx_script.specs.Replies.{fates_text}

abbrev line_of : Pos × Fate → List ℕ
line_of told = line_text (fate_text told.0 told.1)

one_behind : (fates : List (Pos × Fate)) (last : Pos × Fate)
    → fates_text (fates ++ last ∷ []) ≡ fates_text fates ++ line_of last
one_behind [] last = append-nil (line_of last)
one_behind (told ∷ fates) last =
    ap (λ text. line_of told ++ text) (one_behind fates last)
    ∙ sym (append_assoc (line_of told) (fates_text fates) (line_of last))

-- the lines of one fate more
pub fates_more : (fates : List (Pos × Fate)) (i : ℕ) (d : Pos × Fate) → i < length fates
    → fates_text (take (i + 1) fates) ≡ fates_text (take i fates) ++ line_of (get_or fates i d)
fates_more fates i d low = ap fates_text (take_more fates i d low) ∙ one_behind (take i fates) (get_or fates i d)

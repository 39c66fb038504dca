use Rattle.std.proofs.Common.{◌≡◌, ◌<◌, ◌++◌, ◌∷◌, [], length, option_map, sym, ap, ◌∙◌, arith, rules}
use Rattle.std.proofs.lemmas.Int.{to_z-of_z}
use mir.Syntax.{w32}
use mir.Val.{SFits}
use Rattle.vx_grammar.specs.EditLines.{points_of}
use Rattle.vx_grammar.proofs.Points.{point_read, fewer_words, point_unfinished, points_on}
use Rattle.vx_grammar.proofs.edit_reading.points.Goals as goal

pub returns-in_default-coordinate : goal.returns-in_default-coordinate
returns-in_default-coordinate c = λ _.
    c.loop-word.invariant
    ∙ ap (λ ws. option_map (λ more. c.loop-word.points.items ++ more) (points_of ws)) c.in-Some.ensures.word
    ∙ ap (option_map (λ more. c.loop-word.points.items ++ more)) (point_unfinished c.in-Some.word.now c.next.new.self c.in_default-coordinate.ensures)

pub loop-word-smaller : goal.loop-word-smaller
loop-word-smaller c =
    let fewer = fewer_words c.in-Some-coordinate.z c.next.new.self c.coordinate.new.words c.in-Some-coordinate.ensures in
    let one : length c.loop-word.words ≡ length (c.in-Some.word.now ∷ c.next.new.self) = ap length c.in-Some.ensures.word in
    let less : length c.coordinate.new.words < length c.loop-word.words = omega (arith, fewer, one) in
    less

pub loop-word-preserved : goal.loop-word-preserved
loop-word-preserved c =
    let points = c.loop-word.points.items in
    let x_fits : SFits w32 c.in-Some-read_i32.x = search rules in
    let z_fits : SFits w32 c.in-Some-coordinate.z = search rules in
    let pushed : c.push.new.self.items ≡ points ++ (c.in-Some-read_i32.x, c.in-Some-coordinate.z) ∷ [] = rw (c.in-Ok.is, to_z-of_z w32 c.in-Some-read_i32.x x_fits, to_z-of_z w32 c.in-Some-coordinate.z z_fits) at c.push.ensures.items in
    c.loop-word.invariant
    ∙ ap (λ ws. option_map (λ more. points ++ more) (points_of ws)) c.in-Some.ensures.word
    ∙ ap (option_map (λ more. points ++ more)) (point_read c.in-Some-read_i32.x c.in-Some-coordinate.z c.in-Some.word.now c.next.new.self c.coordinate.new.words (sym c.in-Some-read_i32.ensures) c.in-Some-coordinate.ensures)
    ∙ points_on points (c.in-Some-read_i32.x, c.in-Some-coordinate.z) (points_of c.coordinate.new.words)
    ∙ ap (λ ps. option_map (λ more. ps ++ more) (points_of c.coordinate.new.words)) (sym pushed)

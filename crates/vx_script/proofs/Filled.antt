-- Whatever a script says, something stands at each place of its world as it opens.
use Rattle.std.proofs.Common.{◌≡◌, ℕ, ◌+◌, Bool, true, false, not, if◌then◌else◌, nat_lt, bytes_eq, List, [], ◌∷◌, length, map, Option, Some, None, Ok, Err, refl, subst}
use Rattle.std.specs.Prelude.{codes}
use Rattle.std.specs.List.{list_all}
use Rattle.std.specs.Option.{MatchOption}
use Rattle.vx_base.specs.Then.{◌>>=◌}
use Rattle.vx_geom.specs.Sizes.{Sizes}
use Rattle.vx_cells.specs.MapLaws.{IsFilled}
use Rattle.vx_cells.specs.Maps.{MapData}
use Rattle.vx_region.specs.Regions.{Regions}
use Rattle.vx_windows.specs.Limits.{most_players}
use Rattle.vx_record.specs.Openings.{OpeningData}
use Rattle.vx_lines.specs.Lines.{lines_of}
use Rattle.vx_play.specs.Plays.{is_named}
use Rattle.vx_grammar.specs.EditLines.{edit_of}
use Rattle.vx_grammar.specs.Readings.{Rest, next_of, action_at, at_end, byte_at, height_at, position_at, name_at}
use Rattle.vx_grammar.specs.ScriptLines.{Said, Nothing, World, Player, Set, Act, Region, Tick, Explain, Together, End, sizes_of, world_line, player_line, placed_part, set_line, command_of, as_line, region_line, tick_line, explain_line, together_line, end_line, line_by, line_in, line_of, is_printable, is_comment}
use Rattle.vx_grammar.specs.Words.{words_of}
use Rattle.vx_script.specs.declared.fault.Fault.TheVariants.{TooManyPlayers}
use Rattle.vx_script.specs.Headers.{Opening, HeaderEnd, Begins, most_bytes, read_of, no_opening, header_after, header_line, header_end, or_faulty, begins_if, is_peopled, begun_on, begun}
use Rattle.vx_script.specs.Openings.{IsOpening, HasSizes, OpensFilled, EndsFilled, ScriptsOpenFilled}
use Rattle.vx_script.proofs.Openings.{sizes_are_sound, headers_keep_terrain}

-- what a line says has the sizes of a world, if it says some
abbrev HasSound : Option Said → Type 0
HasSound said = MatchOption said (Unit {0}) HasSizes

then_sound : {A : Type 0} (o : Option A) (f : A → Option Said) → ((x : A) → HasSound (f x)) → HasSound (o >>= f)
then_sound None f sound = tt
then_sound (Some x) f sound = sound x

end_sound : (words : Rest) (said : Said) → HasSizes said → HasSound (at_end words said)
end_sound [] said sound = sound
end_sound (word ∷ words) said sound = tt

if_sound : (b : Bool) (these those : Option Said) → HasSound these → HasSound those → HasSound (if b then these else those)
if_sound true these those one other = one
if_sound false these those one other = other

world_sound : (words : Rest) → HasSound (world_line words)
unfolding world_line
world_sound words =
    then_sound (byte_at words) _ (λ sx. then_sound (byte_at sx.1) _ (λ sz. then_sound (byte_at sz.1) _ (λ s. then_sound (height_at s.1) _
    (λ h. by sx.0 sz.0 s.0 h.0 h.1 (sizes_of sx.0 sz.0 s.0 h.0) refl))))
  where
    by : (sx sz s h : ℕ) (rest : Rest) (v : Option Sizes) → sizes_of sx sz s h ≡ v → HasSound (v >>= λ sizes. at_end rest (World sizes))
    by sx sz s h rest None is = tt
    by sx sz s h rest (Some sizes) is = end_sound rest (World sizes) (sizes_are_sound sx sz s h sizes is)

player_sound : (words : Rest) → HasSound (player_line words)
unfolding player_line
player_sound words = then_sound (name_at words) _ (λ name. end_sound name.1 (Player name.0) tt)

set_sound : (words : Rest) → HasSound (set_line words)
unfolding set_line
set_sound words = then_sound (placed_part words) _ (λ placed. tt)

as_sound : (words : Rest) → HasSound (as_line words)
unfolding as_line
as_sound words =
    then_sound (name_at words) _ (λ name. then_sound (next_of name.1) _ (λ verb. then_sound (command_of verb.0 verb.1) _ (λ cmd. tt)))

region_sound : (words : Rest) → HasSound (region_line words)
unfolding region_line
region_sound words = then_sound (edit_of words) _ (λ e. tt)

explain_sound : (words : Rest) → HasSound (explain_line words)
unfolding explain_line
explain_sound words =
    then_sound (name_at words) _ (λ name. then_sound (action_at name.1) _ (λ action. then_sound (position_at action.1) _
    (λ p. end_sound p.1 (Explain name.0 action.0 p.0) tt)))

tick_sound : (words : Rest) → HasSound (tick_line words)
unfolding tick_line
tick_sound words = end_sound words Tick tt

together_sound : (words : Rest) → HasSound (together_line words)
unfolding together_line
together_sound words = end_sound words Together tt

end_line_sound : (words : Rest) → HasSound (end_line words)
unfolding end_line
end_line_sound words = end_sound words End tt

by_word_sound : (first : List ℕ) (words : Rest) → HasSound (line_by first words)
unfolding line_by
by_word_sound first words =
    if_sound (bytes_eq first (codes "as")) _ _ (as_sound words)
    (if_sound (bytes_eq first (codes "tick")) _ _ (tick_sound words)
    (if_sound (bytes_eq first (codes "region")) _ _ (region_sound words)
    (if_sound (bytes_eq first (codes "set")) _ _ (set_sound words)
    (if_sound (bytes_eq first (codes "player")) _ _ (player_sound words)
    (if_sound (bytes_eq first (codes "world")) _ _ (world_sound words)
    (if_sound (bytes_eq first (codes "explain")) _ _ (explain_sound words)
    (if_sound (bytes_eq first (codes "together")) _ _ (together_sound words)
    (if_sound (bytes_eq first (codes "end")) _ _ (end_line_sound words) tt))))))))

in_words_sound : (words : Rest) → HasSound (line_in words)
unfolding line_in
in_words_sound [] = tt
in_words_sound (first ∷ words) = by_word_sound first words

read_sound : (line : List ℕ) → HasSound (read_of line)
unfolding read_of line_of
read_sound line =
    if_sound (nat_lt most_bytes (length line)) _ _ tt
    (if_sound (not (list_all is_printable line)) _ _ tt
    (if_sound (is_comment line) _ _ tt (in_words_sound (words_of line))))

-- a world that is made of an opening is filled as that is
opens_filled : (rs : Regions) (o : Opening) (n : ℕ) → IsOpening o → OpensFilled rs o n
unfolding begun
opens_filled rs o n is opening made = by o.terrain is made
  where
    by : (terrain : Option MapData) → MatchOption terrain (Unit {0}) IsFilled → begun_on rs o.names n terrain ≡ Ok opening → IsFilled opening.terrain
    by None filled made = cc
    by (Some terrain) filled made = of_room (nat_lt most_players (length o.names)) made
      where
        of_room : (b : Bool) → (if b then Err TooManyPlayers else Ok (record { terrain = terrain; names = o.names; policy = rs })) ≡ Ok opening → IsFilled opening.terrain
        of_room true made = cc
        of_room false made =
            let same : record { terrain = terrain; names = o.names; policy = rs } ≡ opening = cc in
            subst (λ (d : OpeningData). IsFilled d.terrain) same filled

module _ (rs : Regions) where
  -- the header ends at a line, or goes on with another opening
  ends : (o : Opening) (n : ℕ) (b : Bool) (first : Said) (lines : List (Option Said)) → IsOpening o → EndsFilled rs (begins_if n b (Begins o n first lines))
  ends o n true first lines is = opens_filled rs o n is
  ends o n false first lines is = tt

  goes : (n : ℕ) (next : Option Opening) (go : Opening → HeaderEnd) → ((o : Opening) → next ≡ Some o → EndsFilled rs (go o)) → EndsFilled rs (or_faulty n next go)
  goes n None go filled = tt
  goes n (Some o) go filled = filled o refl

  -- a line ends the header, or keeps the opening so
  line_filled : (o : Opening) (n : ℕ) (line : Option Said) (go : Opening → HeaderEnd) (lines : List (Option Said)) → HasSound line → IsOpening o
      → ((next : Opening) → IsOpening next → EndsFilled rs (go next)) → EndsFilled rs (header_line o n line go (λ first. Begins o n first lines))
  unfolding header_line
  line_filled o n None go lines sound is later = tt
  line_filled o n (Some (Act name cmd)) go lines sound is later = ends o n (is_named o.names name) (Act name cmd) lines is
  line_filled o n (Some (Explain name action p)) go lines sound is later = ends o n (is_named o.names name) (Explain name action p) lines is
  line_filled o n (Some (Region e)) go lines sound is later = ends o n (is_peopled o) (Region e) lines is
  line_filled o n (Some Tick) go lines sound is later = ends o n (is_peopled o) Tick lines is
  line_filled o n (Some Together) go lines sound is later = ends o n (is_peopled o) Together lines is
  line_filled o n (Some End) go lines sound is later = goes n (header_after o End) go (λ next made. later next (headers_keep_terrain End o next sound is made))
  line_filled o n (Some Nothing) go lines sound is later = goes n (header_after o Nothing) go (λ next made. later next (headers_keep_terrain Nothing o next sound is made))
  line_filled o n (Some (World sizes)) go lines sound is later = goes n (header_after o (World sizes)) go (λ next made. later next (headers_keep_terrain (World sizes) o next sound is made))
  line_filled o n (Some (Player name)) go lines sound is later = goes n (header_after o (Player name)) go (λ next made. later next (headers_keep_terrain (Player name) o next sound is made))
  line_filled o n (Some (Set p part)) go lines sound is later = goes n (header_after o (Set p part)) go (λ next made. later next (headers_keep_terrain (Set p part) o next sound is made))

  -- a header, line after line
  header_filled : (o : Opening) (n : ℕ) (lines : List (List ℕ)) → IsOpening o → EndsFilled rs (header_end o n (map read_of lines))
  header_filled o n [] is = opens_filled rs o n is
  header_filled o n (line ∷ lines) is =
      line_filled o n (read_of line) (λ next. header_end next (n + 1) (map read_of lines)) (map read_of lines) (read_sound line) is
      (λ next kept. header_filled next (n + 1) lines kept)

pub scripts_open_filled : ScriptsOpenFilled
scripts_open_filled rs script = header_filled rs no_opening 1 (lines_of script) tt

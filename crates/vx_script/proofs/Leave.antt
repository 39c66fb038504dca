-- What stands anywhere in the world of a script changes by leave alone.
use Rattle.std.proofs.Common.{◌≡◌, ◌⊎◌, inl, inr, ℕ, Bool, true, false, List, [], ◌∷◌, Option, Some, None, Result, Ok, Err, refl, sym, subst}
use Rattle.vx_cells.specs.MapLaws.{IsFilled}
use Rattle.vx_region.specs.Regions.{Regions}
use Rattle.vx_record.specs.Openings.{OpeningData}
use Rattle.vx_audit.proofs.Owning.{records_have_leave, records_deny_by_the_policy}
use Rattle.vx_grammar.specs.ScriptLines.{Said}
use Rattle.vx_script.specs.declared.fault.Fault.{Fault}
use Rattle.vx_script.specs.Headers.{Opening, HeaderEnd, Faulty, Bare, Begins, says_of, no_opening, header_end, is_peopled, begun}
use Rattle.vx_script.specs.Laws.{IsBodyOf, TellsWithLeave, ScriptsHaveLeave}
use Rattle.vx_script.specs.Openings.{OpensFilled, EndsFilled}
use Rattle.vx_script.specs.Transcript.{TellsGame, WorldTells, BareTells, EndTells, MayTell}
use Rattle.vx_script.proofs.Filled.{scripts_open_filled}

module _ (rs : Regions) (json : Bool) (text : List ℕ) where
  -- a body in a world that opens so
  game_ends : (end : HeaderEnd) (o : OpeningData) (lines : List (Option Said)) → IsFilled o.terrain
      → IsBodyOf rs end o lines → TellsGame o json lines text → TellsWithLeave rs json end text
  game_ends end o lines filled body told =
      let opened = subst (λ (d : OpeningData). IsFilled d.terrain) (sym told.opening) filled in
      record {
        opening = o;
        lines = lines;
        body = body;
        told = told;
        leave = λ p. records_have_leave told.ending p told.sound opened;
        denied = λ rule. records_deny_by_the_policy told.ending rule told.sound opened;
      }

  world_ends : (end : HeaderEnd) (o : Opening) (n : ℕ) (lines : List (Option Said))
      → ((opening : OpeningData) → begun rs o n ≡ Ok opening → IsBodyOf rs end opening lines)
      → (made : Result OpeningData Fault) → begun rs o n ≡ made → OpensFilled rs o n
      → WorldTells json n lines text None made → (text ≡ []) ⊎ TellsWithLeave rs json end text
  world_ends end o n lines body (Err cause) is filled tells = inl tells.0
  world_ends end o n lines body (Ok opening) is filled tells =
      inr (game_ends end opening lines (filled opening is) (body opening is) tells)

  bare_ends : (o : Opening) (n : ℕ) (b : Bool) → OpensFilled rs o n
      → BareTells rs json o n text None b
      → (text ≡ []) ⊎ TellsWithLeave rs json (Bare o n) text
  bare_ends o n true filled tells =
      world_ends (Bare o n) o n [] (λ opening begins. (begins, refl)) (begun rs o n) refl filled
      tells
  bare_ends o n false filled tells = inl tells.0

  script_ends : (end : HeaderEnd) → EndsFilled rs end → EndTells rs json end text None
      → (text ≡ []) ⊎ TellsWithLeave rs json end text
  script_ends (Faulty cause) filled tells = inl tells.0
  script_ends (Bare o n) filled tells = bare_ends o n (is_peopled o) filled tells
  script_ends (Begins o n first lines) filled tells =
      world_ends (Begins o n first lines) o n (Some first ∷ lines)
      (λ opening begins. (begins, refl)) (begun rs o n) refl filled tells

pub scripts_have_leave : ScriptsHaveLeave
unfolding MayTell
scripts_have_leave rs json script text tells =
    script_ends rs json text (header_end no_opening 1 (says_of script))
    (scripts_open_filled rs script) tells

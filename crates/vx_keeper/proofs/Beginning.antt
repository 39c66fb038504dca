-- A keeper as its world opens.
use Rattle.std.proofs.Common.{◌≡◌, ℕ, List, [], length, replicate, refl, sym, ap, ◌∙◌, subst, rules, arith}
use Rattle.std.proofs.lemmas.List.{length-replicate, get_or-replicate}
use Rattle.vx_cells.specs.Wholes.{IsMap}
use Rattle.vx_region.specs.Regions.{Regions}
use Rattle.vx_policy.specs.Asked.{Asked}
use Rattle.vx_policy.specs.Edits.{AreAccepted}
use Rattle.vx_windows.specs.Sectors.{first_version}
use Rattle.vx_record.specs.Openings.{OpeningData}
use Rattle.vx_record.specs.Archives.{ArchiveData, IsArchive}
use Rattle.vx_record.proofs.Counting.{zeros_total}
use Rattle.vx_keeper.specs.Marks.{WorldData}
use Rattle.vx_keeper.specs.Keepers.{keeper_data, IsKeeper}

-- an archive without a tick yet
opened_archive : (o : OpeningData) → IsArchive (record { opening = o; ticks = [] }) (replicate (length o.terrain.sectors) 0)
opened_archive o =
    let many = length o.terrain.sectors in
    record {
      run = record { ticks = tt; first = tt };
      each = length-replicate {A = ℕ} many 0;
      counted = λ k within. get_or-replicate many k 0 0 (omega (arith, length-replicate {A = ℕ} many 0));
      total = zeros_total many;
    }

pub opened_keeps : (first : Regions) (many : ℕ) (o : OpeningData) (a : ArchiveData) (world : WorldData) (seen : List Asked)
    → AreAccepted first seen → IsMap o.terrain → o.policy ≡ first → length o.terrain.sectors ≡ many
    → a.chronicle ≡ record { opening = o; ticks = [] } → a.counts ≡ replicate (length o.terrain.sectors) 0
    → world ≡ record { map = o.terrain; version = first_version o.policy }
    → IsKeeper first many (keeper_data a world seen)
opened_keeps first many o a world seen accepted whole named all chronicle counts known =
    subst (IsKeeper first many)
    (λ i. record {
      chronicle = sym chronicle i;
      counts = sym counts i;
      world = sym known i;
      seen = seen;
      is_roomy = a.is_roomy;
    })
    (record {
      archive = opened_archive o;
      opening = named;
      all = length-replicate {A = ℕ} (length o.terrain.sectors) 0 ∙ all;
      each = all;
      whole = whole;
      map = refl;
      edits = record {
        accepted = accepted;
        begins = λ none. ap first_version named;
        grown = omega arith;
        last = ap first_version named;
        within = omega arith;
      };
      most = search (rules, arith);
      few = λ k d within.
          omega (arith, get_or-replicate (length o.terrain.sectors) k 0 d (omega (arith, within, length-replicate {A = ℕ} (length o.terrain.sectors) 0)));
    })

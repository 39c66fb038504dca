use Rattle.vx_geom.specs.declared.pos.Pos.{Pos}
use Rattle.vx_region.specs.Regions.{Regions}
use Rattle.vx_region.specs.Subjects.{Actor, actor_of}
use Rattle.vx_decide.specs.declared.inquiry.Inquiry.{Inquiry}

-- what a policy is asked: which regions, who acts, and where
pub record Case : Type 0 where
  pub regions : Regions
  pub actor : Actor
  pub place : Pos

-- an actor at a place under these regions
abbrev pub case_at : Regions → Actor → Pos → Case
case_at rs s p = record { regions = rs; actor = s; place = p }

-- what an inquiry asks
abbrev pub case_of : Inquiry → Case
case_of i = case_at i.asker.now.regions.now (actor_of i.asker.now.subject.now) i.place

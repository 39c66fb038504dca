use Rattle.std.specs.Prelude.{ℕ, List, codes}
use Rattle.vx_policy.specs.declared.edit_refusal.EditRefusal.{EditRefusal}
use Rattle.vx_policy.specs.declared.edit_refusal.EditRefusal.TheVariants.{BadId, Known, Unknown, HasChildren, Cycle, BadShape, BadName, GlobalHasNone, TooManyRegions}

-- a refusal as it is written: its number and its words
abbrev pub edit_refusal_text : EditRefusal → List ℕ
edit_refusal_text BadId = codes "refused 20 bad id"
edit_refusal_text Known = codes "refused 21 known"
edit_refusal_text Unknown = codes "refused 22 unknown"
edit_refusal_text HasChildren = codes "refused 23 has children"
edit_refusal_text Cycle = codes "refused 24 cycle"
edit_refusal_text BadShape = codes "refused 25 bad shape"
edit_refusal_text BadName = codes "refused 26 bad name"
edit_refusal_text GlobalHasNone = codes "refused 27 global has none"
edit_refusal_text TooManyRegions = codes "refused 28 too many regions"

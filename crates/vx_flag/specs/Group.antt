use Rattle.std.specs.Prelude.{ℕ, Bool, true, false, codes, bytes_eq, List, [], ◌∷◌, find, Option}
use Rattle.vx_flag.specs.declared.association.Association.{Association}
use Rattle.vx_flag.specs.declared.association.Association.TheVariants.{Owner, Member, Stranger}
use Rattle.vx_flag.specs.declared.group.Group.{Group}
use Rattle.vx_flag.specs.declared.group.Group.TheVariants.{All, Members, Owners, Nonmembers, Nonowners}

-- the text of a group
abbrev pub group_text : Group → List ℕ
group_text All = codes "all"
group_text Members = codes "members"
group_text Owners = codes "owners"
group_text Nonmembers = codes "nonmembers"
group_text Nonowners = codes "nonowners"

-- every group
abbrev pub groups : List Group
groups = All ∷ Members ∷ Owners ∷ Nonmembers ∷ Nonowners ∷ []

-- the group that has this text
unfoldable pub group_of : List ℕ → Option Group
group_of text = find (λ g. bytes_eq (group_text g) text) groups

-- whether a subject of this association belongs to the group
abbrev pub fits : Group → Association → Bool
fits All Owner = true
fits All Member = true
fits All Stranger = true
fits Members Owner = true
fits Members Member = true
fits Members Stranger = false
fits Owners Owner = true
fits Owners Member = false
fits Owners Stranger = false
fits Nonmembers Owner = false
fits Nonmembers Member = false
fits Nonmembers Stranger = true
fits Nonowners Owner = false
fits Nonowners Member = true
fits Nonowners Stranger = true

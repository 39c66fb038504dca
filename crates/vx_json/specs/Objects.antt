-- The objects of the record as values of JSON.
use Rattle.std.specs.Prelude.{ℕ, codes, List}
use Rattle.serde_json.specs.Data.{Data, number, unsigned, string, object, member, no_members}

-- a call: its command, its player's name and its reply, and the numbers of its sector and its tick
abbrev pub call_data : List ℕ → List ℕ → List ℕ → ℕ → ℕ → Data
call_data cmd player reply sector tick =
    object (member (codes "cmd") (string cmd)
    (member (codes "player") (string player)
    (member (codes "reply") (string reply)
    (member (codes "sector") (number (unsigned sector))
    (member (codes "tick") (number (unsigned tick)) no_members)))))

-- a fate, and the number of its tick
abbrev pub fate_data : List ℕ → ℕ → Data
fate_data fate tick =
    object (member (codes "fate") (string fate)
    (member (codes "tick") (number (unsigned tick)) no_members))

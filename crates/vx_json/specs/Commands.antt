use Rattle.std.specs.Prelude.{ℕ, codes, decimal, List, ◌++◌}
use Rattle.vx_block.specs.Part.{part_text}
use Rattle.vx_json.specs.Texts.{pos_text}
use Rattle.vx_sector.specs.declared.cmd.Cmd.{Cmd}
use Rattle.vx_sector.specs.declared.cmd.Cmd.TheVariants.{Look, Place, Break, Turn, OpenChest, Put, Take}

-- the words of a command as it is written, behind its player's name
abbrev pub cmd_text : Cmd → List ℕ
cmd_text (Look p) = codes "look " ++ pos_text p
cmd_text (Place p part) = codes "place " ++ pos_text p ++ codes " " ++ part_text part
cmd_text (Break p) = codes "break " ++ pos_text p
cmd_text (Turn p) = codes "turn " ++ pos_text p
cmd_text (OpenChest p) = codes "open " ++ pos_text p
cmd_text (Put p slot item count) =
    codes "put " ++ pos_text p ++ codes " " ++ decimal slot ++ codes " " ++ decimal item
    ++ codes " " ++ decimal count
cmd_text (Take p slot count) =
    codes "take " ++ pos_text p ++ codes " " ++ decimal slot ++ codes " " ++ decimal count

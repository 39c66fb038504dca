-- A script faults at its first faulty line, or at its last one, where it ends in a block.
use Rattle.std.proofs.Common.{◌≡◌, ◌≢◌, ℕ, ◌+◌, ◌-◌, ◌<◌, ◌⊎◌, inl, inr, Bool, true, false, List, [], ◌∷◌, ◌++◌, length, Option, Some, None, Result, Ok, Err, is_some, nat_lt, if◌then◌else◌, refl, ap, sym, ◌∙◌, subst, arith}
use Rattle.std.proofs.lemmas.Bool.{and_parts}
use Rattle.vx_cells.specs.Maps.{MapData}
use Rattle.vx_record.specs.Openings.{OpeningData}
use Rattle.vx_audit.specs.Deeds.{DeedData}
use Rattle.vx_grammar.specs.ScriptLines.{Said, Nothing, World, Player, Set, Act, Region, Tick, Explain, Together, End}
use Rattle.vx_play.specs.Plays.{is_named}
use Rattle.vx_windows.specs.Limits.{most_players}
use Rattle.vx_region.specs.Regions.{Regions}
use Rattle.vx_script.specs.declared.fault.Fault.{Fault}
use Rattle.vx_script.specs.declared.fault.Fault.TheVariants.{Syntax, TooManyPlayers}
use Rattle.vx_script.specs.declared.fault.Fault.TheVariants as fault
use Rattle.vx_script.specs.FirstFault.{AreSound, IsFirstFault, IsOpenBlock, FirstFault, FaultsAreOfTheScript, body_fault, world_fault, end_fault, lines_fault}
use Rattle.vx_script.specs.Headers.{Opening, HeaderEnd, Faulty, Bare, Begins, or_faulty, begins_if, header_after, header_line, header_end, is_peopled, begun, begun_on, no_opening, says_of}
use Rattle.vx_script.specs.Replies.{RepliesAll}
use Rattle.vx_script.specs.Stages.{Stage, Outside, Inside, StopsAt, is_inside, may_stand, stage_after, stage_behind}
use Rattle.vx_script.specs.Transcript.{BodyTells, WorldTells, BareTells, EndTells, MayTell}

-- where lines are faulty
abbrev FaultsSo : (List (Option Said) → Option Fault) → ℕ → List (Option Said) → ℕ → Type 0
FaultsSo fault_of n lines k = IsFirstFault fault_of n lines k ⊎ IsOpenBlock fault_of n lines k

-- the fault is at the first line
at_once : (fault_of : List (Option Said) → Option Fault) (n k : ℕ) (line : Option Said) (lines : List (Option Said)) → k ≡ n
    → AreSound fault_of [] → ((more : List (Option Said)) → fault_of (line ∷ more) ≡ Some (Syntax n))
    → FaultsSo fault_of n (line ∷ lines) k
at_once fault_of n k line lines same sound stops = inl (record {
  before = [];
  faulty = line;
  behind = lines;
  parts = refl;
  number = omega (arith, same);
  sound = sound;
  whatever = λ more. stops more ∙ ap (λ m. Some (Syntax m)) (sym same);
})

-- what is sound stays so with a line before it that stands
sound_behind : (fault_of next : List (Option Said) → Option Fault) (line : Option Said) (lines : List (Option Said)) → AreSound next lines
    → ((more : List (Option Said)) → fault_of (line ∷ more) ≡ next more) → AreSound fault_of (line ∷ lines)
sound_behind fault_of next line lines (inl sound) same = inl (λ j fault. sound j (sym (same lines) ∙ fault))
sound_behind fault_of next line lines (inr sound) same = inr (λ j fault. sound j (sym (same (lines ++ Some End ∷ [])) ∙ fault))

-- the fault is further on
further_on : (fault_of next : List (Option Said) → Option Fault) (n k : ℕ) (line : Option Said) (lines : List (Option Said)) → FaultsSo next (n + 1) lines k
    → ((more : List (Option Said)) → fault_of (line ∷ more) ≡ next more) → FaultsSo fault_of n (line ∷ lines) k
further_on fault_of next n k line lines (inl first) same = inl (record {
  before = line ∷ first.before;
  faulty = first.faulty;
  behind = first.behind;
  parts = ap (λ ls. line ∷ ls) first.parts;
  number = omega (arith, first.number);
  sound = sound_behind fault_of next line first.before first.sound same;
  whatever = λ more. same (first.before ++ first.faulty ∷ more) ∙ first.whatever more;
})
further_on fault_of next n k line lines (inr open_one) same = inr (record {
  number = omega (arith, open_one.number);
  sound = λ j fault. open_one.sound j (sym (same (lines ++ Some End ∷ [])) ∙ fault);
})

-- no line is faulty where there is none
nothing_sound : (names : List (List ℕ)) (stage : Stage) (n : ℕ) → AreSound (body_fault names stage n) []
nothing_sound names Outside n = inl (λ j wrong. cc)
nothing_sound names (Inside asked) n = inr (λ j wrong. cc)

-- a body faults at its first faulty line, or at its last one
body_first : (names : List (List ℕ)) (stage : Stage) (n : ℕ) (lines : List (Option Said)) (k : ℕ) → 0 < n → body_fault names stage n lines ≡ Some (Syntax k)
    → FaultsSo (body_fault names stage n) n lines k
body_first names Outside n [] k some fault = cc
body_first names (Inside asked) n [] k some fault =
    let last : n - 1 ≡ k = cc in
    inr (record { number = omega (arith, some, last); sound = λ j wrong. cc })
body_first names stage n (line ∷ lines) k some fault =
    by (may_stand names stage line) refl (λ at. body_first names (stage_after names stage line) (n + 1) lines k (omega arith) at) fault
  where
    next : List (Option Said) → Option Fault
    next = body_fault names (stage_after names stage line) (n + 1)

    by : (b : Bool) → may_stand names stage line ≡ b → (next lines ≡ Some (Syntax k) → FaultsSo next (n + 1) lines k)
        → (if b then next lines else Some (Syntax n)) ≡ Some (Syntax k) → FaultsSo (body_fault names stage n) n (line ∷ lines) k
    by true stands later at = further_on (body_fault names stage n) next n k line lines (later at)
        (λ more. ap (λ b. if b then next more else Some (Syntax n)) stands)
    by false faulty later at = at_once (body_fault names stage n) n k line lines (cc) (nothing_sound names stage n)
        (λ more. ap (λ b. if b then next more else Some (Syntax n)) faulty)

-- where the world has a size, no line is faulty as it is made
made_sound : (rs : Regions) (names : List (List ℕ)) (n : ℕ) (terrain : Option MapData) (k : ℕ) → is_some terrain ≡ true
    → world_fault n [] (begun_on rs names n terrain) ≢ Some (Syntax k)
made_sound rs names n None k some fault = cc
made_sound rs names n (Some terrain) k some fault = by (nat_lt most_players (length names)) fault
  where
    by : (b : Bool) → world_fault n [] (if b then Err TooManyPlayers else Ok (record { terrain = terrain; names = names; policy = rs })) ≡ Some (Syntax k) → ⊥
    by true at = cc
    by false at = cc

-- a script that ends in its header has no faulty line
bare_sound : (rs : Regions) (o : Opening) (n k : ℕ) → end_fault rs (Bare o n) ≢ Some (Syntax k)
unfolding begun
bare_sound rs o n k fault = by (is_peopled o) refl fault
  where
    by : (b : Bool) → is_peopled o ≡ b → (if b then world_fault n [] (begun_on rs o.names n o.terrain) else None) ≡ Some (Syntax k) → ⊥
    by true peopled at = made_sound rs o.names n o.terrain k (and_parts _ _ peopled).0 at
    by false empty at = cc

module _ (rs : Regions) (o : Opening) (n : ℕ) (lines : List (Option Said)) (k : ℕ) where
  abbrev First : Option Said → Type 0
  First line = FaultsSo (lines_fault rs o n) n (line ∷ lines) k

  -- no line is faulty where there is none
  bare : AreSound (lines_fault rs o n) []
  bare = inl (λ j. bare_sound rs o n j)

  -- what follows faults at its first faulty line
  abbrev Later : Type 0
  Later = (next : Opening) → lines_fault rs next (n + 1) lines ≡ Some (Syntax k) → FaultsSo (lines_fault rs next (n + 1)) (n + 1) lines k

  -- the line is faulty
  stops : (line : Option Said) → ((go : Opening → HeaderEnd) (first : Said → HeaderEnd) → header_line o n line go first ≡ Faulty (Syntax n)) → k ≡ n → First line
  stops line is same = at_once (lines_fault rs o n) n k line lines same bare (λ more. ap (end_fault rs) (is _ _))

  -- a line that the header takes, or not
  goes : (said : Said) → ((go : Opening → HeaderEnd) (first : Said → HeaderEnd) → header_line o n (Some said) go first ≡ or_faulty n (header_after o said) go)
      → Later → end_fault rs (or_faulty n (header_after o said) (λ next. header_end next (n + 1) lines)) ≡ Some (Syntax k) → First (Some said)
  goes said is later fault = by (header_after o said) refl fault
    where
      by : (next : Option Opening) → header_after o said ≡ next → end_fault rs (or_faulty n next (λ next. header_end next (n + 1) lines)) ≡ Some (Syntax k) → First (Some said)
      by None none at = stops (Some said) (λ go first. is go first ∙ ap (λ a. or_faulty n a go) none) (cc)
      by (Some next) taken at = further_on (lines_fault rs o n) (lines_fault rs next (n + 1)) n k (Some said) lines (later next at)
          (λ more. ap (end_fault rs) (is _ _ ∙ ap (λ a. or_faulty n a (λ next. header_end next (n + 1) more)) taken))

  -- a fault of the body is one of the script, where the header hands it its first line
  module _ (names : List (List ℕ)) (said : Said)
      (same : (more : List (Option Said)) → lines_fault rs o n (Some said ∷ more) ≡ body_fault names Outside n (Some said ∷ more)) where
    begins : (own : Option Said) (before : List (Option Said)) → Some said ≡ own → lines_fault rs o n (own ∷ before) ≡ body_fault names Outside n (own ∷ before)
    begins own before is = subst (λ l. lines_fault rs o n (l ∷ before) ≡ body_fault names Outside n (l ∷ before)) is (same before)

    sound : (before : List (Option Said)) (faulty : Option Said) (behind : List (Option Said)) → Some said ∷ lines ≡ before ++ faulty ∷ behind
        → AreSound (body_fault names Outside n) before → AreSound (lines_fault rs o n) before
    sound [] faulty behind parts of_body = bare
    sound (own ∷ before) faulty behind parts (inl of_body) =
        let is : Some said ≡ own = cc in
        inl (λ j at. of_body j (sym (begins own before is) ∙ at))
    sound (own ∷ before) faulty behind parts (inr of_body) =
        let is : Some said ≡ own = cc in
        inr (λ j at. of_body j (sym (begins own (before ++ Some End ∷ []) is) ∙ at))

    whatever : (before more : List (Option Said)) (faulty : Option Said) (behind : List (Option Said)) → Some said ∷ lines ≡ before ++ faulty ∷ behind
        → lines_fault rs o n (before ++ faulty ∷ more) ≡ body_fault names Outside n (before ++ faulty ∷ more)
    whatever [] more faulty behind parts = let is : Some said ≡ faulty = cc in begins faulty more is
    whatever (own ∷ before) more faulty behind parts = let is : Some said ≡ own = cc in begins own (before ++ faulty ∷ more) is

    handed_on : FaultsSo (body_fault names Outside n) n (Some said ∷ lines) k → First (Some said)
    handed_on (inl first) = inl (record {
      before = first.before;
      faulty = first.faulty;
      behind = first.behind;
      parts = first.parts;
      number = first.number;
      sound = sound first.before first.faulty first.behind first.parts first.sound;
      whatever = λ more. whatever first.before more first.faulty first.behind first.parts ∙ first.whatever more;
    })
    handed_on (inr open_one) = inr (record {
      number = open_one.number;
      sound = λ j at. open_one.sound j (sym (same (lines ++ Some End ∷ [])) ∙ at);
    })

  -- the first line of the body: the body faults from there on
  last : 0 < n → (said : Said) (may_stand : Bool)
      → ((go : Opening → HeaderEnd) (first : Said → HeaderEnd) → header_line o n (Some said) go first ≡ begins_if n may_stand (first said))
      → end_fault rs (begins_if n may_stand (Begins o n said lines)) ≡ Some (Syntax k) → First (Some said)
  unfolding begun
  last some said false is fault = stops (Some said) is (cc)
  last some said true is fault = by o.terrain refl fault
    where
      by : (terrain : Option MapData) → o.terrain ≡ terrain → world_fault n (Some said ∷ lines) (begun_on rs o.names n terrain) ≡ Some (Syntax k) → First (Some said)
      by None none at = at_once (lines_fault rs o n) n k (Some said) lines (cc) bare
          (λ more. ap (end_fault rs) (is _ _) ∙ ap (λ t. world_fault n (Some said ∷ more) (begun_on rs o.names n t)) none)
      by (Some terrain) there at = seated (nat_lt most_players (length o.names)) refl at
        where
          opening : OpeningData
          opening = record { terrain = terrain; names = o.names; policy = rs }

          seated : (many : Bool) → nat_lt most_players (length o.names) ≡ many
              → world_fault n (Some said ∷ lines) (if many then Err TooManyPlayers else Ok opening) ≡ Some (Syntax k) → First (Some said)
          seated true many at = cc
          seated false few at = handed_on o.names said
              (λ more. ap (end_fault rs) (is _ _)
              ∙ ap (λ t. world_fault n (Some said ∷ more) (begun_on rs o.names n t)) there
              ∙ ap (λ b. world_fault n (Some said ∷ more) (if b then Err TooManyPlayers else Ok opening)) few)
              (body_first o.names Outside n (Some said ∷ lines) k some at)

  by_line : 0 < n → (line : Option Said) → Later → end_fault rs (header_line o n line (λ next. header_end next (n + 1) lines) (λ first. Begins o n first lines)) ≡ Some (Syntax k) → First line
  unfolding header_line
  by_line some None later fault = stops None (λ go first. refl) (cc)
  by_line some (Some Nothing) later fault = goes Nothing (λ go first. refl) later fault
  by_line some (Some (World sizes)) later fault = goes (World sizes) (λ go first. refl) later fault
  by_line some (Some (Player name)) later fault = goes (Player name) (λ go first. refl) later fault
  by_line some (Some (Set p part)) later fault = goes (Set p part) (λ go first. refl) later fault
  by_line some (Some (Act name cmd)) later fault = last some (Act name cmd) (is_named o.names name) (λ go first. refl) fault
  by_line some (Some (Explain name action p)) later fault = last some (Explain name action p) (is_named o.names name) (λ go first. refl) fault
  by_line some (Some (Region e)) later fault = last some (Region e) (is_peopled o) (λ go first. refl) fault
  by_line some (Some Tick) later fault = last some Tick (is_peopled o) (λ go first. refl) fault
  by_line some (Some Together) later fault = last some Together (is_peopled o) (λ go first. refl) fault
  by_line some (Some End) later fault = goes End (λ go first. refl) later fault

header_first : (rs : Regions) (o : Opening) (n : ℕ) (lines : List (Option Said)) (k : ℕ) → 0 < n → lines_fault rs o n lines ≡ Some (Syntax k) → FaultsSo (lines_fault rs o n) n lines k
header_first rs o n [] k some fault = absurd (bare_sound rs o n k fault)
header_first rs o n (line ∷ lines) k some fault = by_line rs o n lines k some line (λ next at. header_first rs next (n + 1) lines k (omega arith) at) fault

pub first_fault : FirstFault
first_fault rs script k fault = header_first rs no_opening 1 (says_of script) k (omega arith) fault

-- lines that are replied to may stand in a body, where they end in no block
none_faulty : (rs : Regions) (names : List (List ℕ)) (stage : Stage) (n : ℕ) (lines : List (Option Said)) (done deeds : List DeedData) (text : List ℕ)
    → RepliesAll rs names stage lines done deeds text → is_inside (stage_behind names stage lines) ≡ false → body_fault names stage n lines ≡ None
none_faulty rs names stage n [] done deeds text says closed = ap (λ b. if b then Some (Syntax (n - 1)) else None) closed
none_faulty rs names stage n (line ∷ lines) done deeds text says closed =
    ap (λ b. if b then body_fault names (stage_after names stage line) (n + 1) lines else Some (Syntax n)) says.stands
    ∙ none_faulty rs names (stage_after names stage line) (n + 1) lines (done ++ says.now) says.later says.rest says.others closed

module _ (rs : Regions) (names : List (List ℕ)) where
  -- one behind them that may not stand is the first
  stops_there : (stage : Stage) (n : ℕ) (front : List (Option Said)) (faulty : Option Said) (behind : List (Option Said)) (done deeds : List DeedData) (text : List ℕ)
      → RepliesAll rs names stage front done deeds text → may_stand names (stage_behind names stage front) faulty ≡ false
      → body_fault names stage n (front ++ faulty ∷ behind) ≡ Some (Syntax (n + length front))
  stops_there stage n [] faulty behind done deeds text says stands =
      let none : n ≡ n + 0 = omega arith in
      ap (λ b. if b then body_fault names (stage_after names stage faulty) (n + 1) behind else Some (Syntax n)) stands ∙ ap (λ m. Some (Syntax m)) none
  stops_there stage n (line ∷ front) faulty behind done deeds text says stands =
      ap (λ b. if b then body_fault names (stage_after names stage line) (n + 1) (front ++ faulty ∷ behind) else Some (Syntax n)) says.stands
      ∙ stops_there (stage_after names stage line) (n + 1) front faulty behind (done ++ says.now) says.later says.rest says.others stands
      ∙ ap (λ m. Some (Syntax m)) (longer front)
    where
      longer : (front : List (Option Said)) → n + 1 + length front ≡ n + length (line ∷ front)
      longer front = omega arith

  -- where they end in a block, the last one is
  stops_at_end : (stage : Stage) (n : ℕ) (front : List (Option Said)) (done deeds : List DeedData) (text : List ℕ)
      → RepliesAll rs names stage front done deeds text → is_inside (stage_behind names stage front) ≡ true
      → body_fault names stage n front ≡ Some (Syntax (n + length front - 1))
  stops_at_end stage n [] done deeds text says inside =
      let none : n - 1 ≡ n + 0 - 1 = omega arith in
      ap (λ b. if b then Some (Syntax (n - 1)) else None) inside ∙ ap (λ m. Some (Syntax m)) none
  stops_at_end stage n (line ∷ front) done deeds text says inside =
      ap (λ b. if b then body_fault names (stage_after names stage line) (n + 1) front else Some (Syntax n)) says.stands
      ∙ stops_at_end (stage_after names stage line) (n + 1) front (done ++ says.now) says.later says.rest says.others inside
      ∙ ap (λ m. Some (Syntax m)) (longer front)
    where
      longer : (front : List (Option Said)) → n + 1 + length front - 1 ≡ n + length (line ∷ front) - 1
      longer front = omega arith

  -- lines that stop at line k fault there
  stops_so : (n : ℕ) (lines front : List (Option Said)) (k : ℕ) (deeds : List DeedData) (text : List ℕ) → RepliesAll rs names Outside front [] deeds text
      → StopsAt names Outside n lines front k → Some (Syntax k) ≡ body_fault names Outside n lines
  stops_so n lines front k deeds text says (inl there) =
      ap (λ m. Some (Syntax m)) there.number
      ∙ sym (stops_there Outside n front there.faulty there.behind [] deeds text says there.stands)
      ∙ ap (body_fault names Outside n) (sym there.parts)
  stops_so n lines front k deeds text says (inr there) =
      let last : k ≡ n + length front - 1 = omega (arith, there.number) in
      ap (λ m. Some (Syntax m)) last
      ∙ sym (stops_at_end Outside n front [] deeds text says there.inside)
      ∙ ap (body_fault names Outside n) (sym there.all)

pub body_faults : (o : OpeningData) (json : Bool) (n : ℕ) (lines : List (Option Said)) (text : List ℕ) (fault : Option Fault)
    → BodyTells o json n lines text fault → fault ≡ body_fault o.names Outside n lines
body_faults o json n lines text None tells =
    sym (none_faulty o.policy o.names Outside n lines [] tells.deeds tells.replies tells.says tells.closed)
body_faults o json n lines text (Some (Syntax k)) tells =
    stops_so o.policy o.names n lines tells.front k tells.deeds text tells.says tells.stops
body_faults o json n lines text (Some fault.HistoryFull) tells = absurd tells
body_faults o json n lines text (Some fault.NoMemory) tells = absurd tells
body_faults o json n lines text (Some fault.TooManyPlayers) tells = absurd tells
body_faults o json n lines text (Some (fault.Torn sector)) tells = absurd tells
body_faults o json n lines text (Some fault.PassMissing) tells = absurd tells
body_faults o json n lines text (Some (fault.ListsDiffer seat sector)) tells = absurd tells
body_faults o json n lines text (Some fault.NoView) tells = absurd tells
body_faults o json n lines text (Some fault.BadRegionFile) tells = absurd tells
body_faults o json n lines text (Some fault.ReadFailed) tells = absurd tells
body_faults o json n lines text (Some fault.WriteFailed) tells = absurd tells

world_faults : (json : Bool) (n : ℕ) (lines : List (Option Said)) (text : List ℕ) (fault : Option Fault) (world : Result OpeningData Fault)
    → WorldTells json n lines text fault world → fault ≡ world_fault n lines world
world_faults json n lines text fault (Err cause) tells = tells.1
world_faults json n lines text fault (Ok o) tells = body_faults o json n lines text fault tells

end_faults : (rs : Regions) (json : Bool) (end : HeaderEnd) (text : List ℕ) (fault : Option Fault) → EndTells rs json end text fault → fault ≡ end_fault rs end
end_faults rs json (Faulty cause) text fault tells = tells.1
end_faults rs json (Bare o n) text fault tells = by (is_peopled o) tells
  where
    by : (b : Bool) → BareTells rs json o n text fault b → fault ≡ (if b then world_fault n [] (begun rs o n) else None)
    by true tells = world_faults json n [] text fault (begun rs o n) tells
    by false tells = tells.1
end_faults rs json (Begins o n first lines) text fault tells = world_faults json n (Some first ∷ lines) text fault (begun rs o n) tells

pub faults_are_of_the_script : FaultsAreOfTheScript
unfolding MayTell
faults_are_of_the_script rs json script text fault tells = end_faults rs json (header_end no_opening 1 (says_of script)) text fault tells

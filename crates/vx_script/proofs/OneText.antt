-- A script without blocks writes one text.
use Rattle.std.proofs.Common.{◌≡◌, ◌≢◌, inl, inr, ℕ, ◌+◌, Bool, true, false, List, [], ◌∷◌, ◌++◌, map, Option, Some, None, Result, Ok, Err, refl, ap, sym, ◌∙◌, subst}
use Rattle.vx_region.specs.Regions.{Regions}
use Rattle.vx_policy.specs.declared.edit_refusal.EditRefusal.{EditRefusal}
use Rattle.vx_policy.specs.Asked.{Asked}
use Rattle.vx_policy.specs.Refusals.{refusal}
use Rattle.vx_windows.specs.Sectors.{entries_of}
use Rattle.vx_record.specs.Chronicles.{TickData}
use Rattle.vx_record.specs.Openings.{OpeningData}
use Rattle.vx_play.specs.Plays.{PlayData, opened, answered, is_named}
use Rattle.vx_play.specs.Games.{Command, after_step}
use Rattle.vx_audit.specs.Deeds.{DeedData, Called, Ticked, IsPlayed}
use Rattle.vx_audit.specs.Recorded.{IsRecorded, ticks_by}
use Rattle.vx_audit.specs.Records.{RecordData}
use Rattle.vx_grammar.specs.ScriptLines.{Said, Nothing, World, Player, Set, Act, Region, Tick, Explain, Together, End}
use Rattle.vx_script.specs.declared.fault.Fault.{Fault}
use Rattle.vx_script.specs.declared.fault.Fault.TheVariants.{Syntax}
use Rattle.vx_script.specs.declared.fault.Fault.TheVariants as fault
use Rattle.vx_script.specs.Headers.{Opening, HeaderEnd, Faulty, Bare, Begins, or_faulty, begins_if, header_after, header_line, header_end, is_peopled, begun, no_opening, says_of}
use Rattle.vx_script.specs.Laws.{HasNoBlock, ScriptsWriteOneText}
use Rattle.vx_script.specs.Replies.{policy_after, RepliesOutside, RepliesAll, IsJudged}
use Rattle.vx_script.specs.Stages.{Outside, StopsAt, is_inside, may_stand, stands_outside, after_outside, stage_behind}
use Rattle.vx_script.specs.Transcript.{TellsGame, TellsUpTo, BodyTells, WorldTells, BareTells, EndTells, MayTell, done_text, record_lines}
use Rattle.vx_script.proofs.FirstFaults.{body_faults}

-- a line that begins no block leaves the stage outside of any
stays : (line : Option Said) → line ≢ Some Together → after_outside line ≡ Outside
stays None single = refl
stays (Some Nothing) single = refl
stays (Some (World sizes)) single = refl
stays (Some (Player name)) single = refl
stays (Some (Set p part)) single = refl
stays (Some (Act name cmd)) single = refl
stays (Some (Region e)) single = refl
stays (Some Tick) single = refl
stays (Some (Explain name action p)) single = refl
stays (Some Together) single = absurd (single refl)
stays (Some End) single = refl

-- lines without a block end outside of any
ends_outside : (names : List (List ℕ)) (lines : List (Option Said)) → HasNoBlock lines → stage_behind names Outside lines ≡ Outside
ends_outside names [] single = refl
ends_outside names (line ∷ lines) single = ap (λ stage. stage_behind names stage lines) (stays line single.0) ∙ ends_outside names lines single.1

-- so do those that come first among them
front_single : (front behind : List (Option Said)) → HasNoBlock (front ++ behind) → HasNoBlock front
front_single [] behind single = tt
front_single (line ∷ front) behind single = (single.0, front_single front behind single.1)

-- what was played leaves a record
recorded : (play : PlayData) (deeds : List DeedData) (last : PlayData) → IsPlayed play deeds last → (ticks : List TickData) × IsRecorded play deeds ticks last
recorded play [] last played = ([], (refl, played))
recorded play (deed ∷ deeds) last played =
    let rest = recorded played.0 deeds last played.2 in
    (ticks_by play deed ++ rest.0, (played.0, rest.0, played.1, refl, rest.1))

-- a line that was replied to twice in one world did the same, was replied to alike, and leads to one world
pub record SameStep (play : PlayData) (now again : List DeedData) (reply other : List ℕ) (later behind : List DeedData)
    (ticks more : List TickData) (last final : PlayData) : Type 0 where
  pub mid : PlayData
  pub front : List TickData
  pub rest : List TickData
  pub others : List TickData
  pub now_is : now ≡ again
  pub reply_is : reply ≡ other
  pub ticks_are : ticks ≡ front ++ rest
  pub more_are : more ≡ front ++ others
  pub goes : IsRecorded mid later rest last
  pub goes_too : IsRecorded mid behind others final

module _ (rs : Regions) (names : List (List ℕ)) (play : PlayData) (done now again : List DeedData) (reply other : List ℕ) (later behind : List DeedData)
    (ticks more : List TickData) (last final : PlayData) where
  abbrev Step : Type 0
  Step = SameStep play now again reply other later behind ticks more last final

  -- a line that does nothing
  nothing : now ≡ [] → again ≡ [] → reply ≡ other → IsRecorded play (now ++ later) ticks last → IsRecorded play (again ++ behind) more final → Step
  nothing none none_too same left right = record {
    mid = play;
    front = [];
    rest = ticks;
    others = more;
    now_is = none ∙ sym none_too;
    reply_is = same;
    ticks_are = refl;
    more_are = refl;
    goes = subst (λ d. IsRecorded play (d ++ later) ticks last) none left;
    goes_too = subst (λ d. IsRecorded play (d ++ behind) more final) none_too right;
  }

  judged : (e : Asked) (cause : Option EditRefusal) → IsJudged rs done e cause now reply → IsJudged rs done e cause again other
      → IsRecorded play (now ++ later) ticks last → IsRecorded play (again ++ behind) more final → Step
  judged e (Some cause) one two left right = nothing one.0 two.0 (one.1 ∙ sym two.1) left right
  judged e None one two left right =
      let first = subst (λ d. IsRecorded play (d ++ later) ticks last) one.0 left in
      let second = subst (λ d. IsRecorded play (d ++ behind) more final) two.0 right in
      record {
        mid = first.0;
        front = [];
        rest = first.1;
        others = second.1;
        now_is = one.0 ∙ sym two.0;
        reply_is = one.1 ∙ sym two.1;
        ticks_are = first.3;
        more_are = second.3;
        goes = first.4;
        goes_too = subst (λ m. IsRecorded m behind second.1 final) (second.2 ∙ sym first.2) second.4;
      }

  pub same_step : (line : Option Said) → line ≢ Some Together → RepliesOutside rs names done line now reply → RepliesOutside rs names done line again other
      → IsRecorded play (now ++ later) ticks last → IsRecorded play (again ++ behind) more final → Step
  same_step None single one two left right = absurd one
  same_step (Some (World sizes)) single one two left right = absurd one
  same_step (Some (Player name)) single one two left right = absurd one
  same_step (Some (Set p part)) single one two left right = absurd one
  same_step (Some Together) single one two left right = absurd (single refl)
  same_step (Some End) single one two left right = absurd one
  same_step (Some Nothing) single one two left right = nothing one.0 two.0 (one.1 ∙ sym two.1) left right
  same_step (Some (Explain name action p)) single one two left right = nothing one.0 two.0 (one.1 ∙ sym two.1) left right
  same_step (Some (Region e)) single one two left right = judged e (refusal (policy_after rs done) e) one two left right
  same_step (Some (Act name cmd)) single one two left right =
      let first = subst (λ d. IsRecorded play (d ++ later) ticks last) one.deed left in
      let second = subst (λ d. IsRecorded play (d ++ behind) more final) two.deed right in
      let number : one.number ≡ two.number = cc (one.seat, two.seat) in
      let answer : one.answer ≡ two.answer =
      first.2.told ∙ ap (λ n. (answered play (record { number = n; name = name }) cmd).0) number ∙ sym second.2.told in
      record {
        mid = first.0;
        front = [];
        rest = first.1;
        others = second.1;
        now_is = one.deed ∙ (λ i. Called (record { seat = record { number = number i; name = name }; cmd = cmd; answer = answer i }) ∷ []) ∙ sym two.deed;
        reply_is = cc (one.told, two.told, answer);
        ticks_are = first.3;
        more_are = second.3;
        goes = first.4;
        goes_too = subst (λ m. IsRecorded m behind second.1 final)
            (second.2.after ∙ sym (ap (λ n. after_step play (Command (record { number = n; name = name }) cmd)) number) ∙ sym first.2.after) second.4;
      }
  same_step (Some Tick) single one two left right =
      let first = subst (λ d. IsRecorded play (d ++ later) ticks last) one.deed left in
      let second = subst (λ d. IsRecorded play (d ++ behind) more final) two.deed right in
      let fates : one.fates ≡ two.fates = first.2.told ∙ sym second.2.told in
      record {
        mid = first.0;
        front = ticks_by play (Ticked one.fates);
        rest = first.1;
        others = second.1;
        now_is = one.deed ∙ ap (λ f. Ticked f ∷ []) fates ∙ sym two.deed;
        reply_is = cc (one.told, two.told, fates);
        ticks_are = first.3;
        more_are = second.3 ∙ ap (λ f. ticks_by play (Ticked f) ++ second.1) (sym fates);
        goes = first.4;
        goes_too = subst (λ m. IsRecorded m behind second.1 final) (second.2.after ∙ sym first.2.after) second.4;
      }

-- lines that were replied to twice in one world
pub record SameAll (one other : List DeedData) (s t : List ℕ) (ticks more : List TickData) (last final : PlayData) : Type 0 where
  pub deeds : one ≡ other
  pub text : s ≡ t
  pub on_record : ticks ≡ more
  pub ends : last ≡ final

same_all : (rs : Regions) (names : List (List ℕ)) (lines : List (Option Said)) → HasNoBlock lines → (play : PlayData) (done one other : List DeedData) (s t : List ℕ)
    (ticks more : List TickData) (last final : PlayData) → RepliesAll rs names Outside lines done one s → RepliesAll rs names Outside lines done other t
    → IsRecorded play one ticks last → IsRecorded play other more final → SameAll one other s t ticks more last final
same_all rs names [] single play done one other s t ticks more last final says again left right =
    let first = subst (λ d. IsRecorded play d ticks last) says.0 left in
    let second = subst (λ d. IsRecorded play d more final) again.0 right in
    record {
      deeds = says.0 ∙ sym again.0;
      text = says.1 ∙ sym again.1;
      on_record = first.0 ∙ sym second.0;
      ends = first.1 ∙ sym second.1;
    }
same_all rs names (line ∷ lines) single play done one other s t ticks more last final says again left right =
    let step = same_step rs names play done says.now again.now says.reply again.reply says.later again.later ticks more last final line single.0 says.replies again.replies
    (subst (λ d. IsRecorded play d ticks last) says.deeds_are left) (subst (λ d. IsRecorded play d more final) again.deeds_are right) in
    let outside : after_outside line ≡ Outside = stays line single.0 in
    let rest = same_all rs names lines single.1 step.mid (done ++ says.now) says.later again.later says.rest again.rest step.rest step.others last final
    (subst (λ stage. RepliesAll rs names stage lines (done ++ says.now) says.later says.rest) outside says.others)
    (subst (λ stage. RepliesAll rs names stage lines (done ++ says.now) again.later again.rest) outside
    (subst (λ d. RepliesAll rs names (after_outside line) lines (done ++ d) again.later again.rest) (sym step.now_is) again.others)) step.goes step.goes_too in
    record {
      deeds = says.deeds_are ∙ (λ i. step.now_is i ++ rest.deeds i) ∙ sym again.deeds_are;
      text = says.text_is ∙ (λ i. step.reply_is i ++ rest.text i) ∙ sym again.text_is;
      on_record = step.ticks_are ∙ ap (λ ts. step.front ++ ts) rest.on_record ∙ sym step.more_are;
      ends = rest.ends;
    }

-- two records of one game say the same
same_record : (o : OpeningData) (json : Bool) (r q : RecordData) → r.chronicle.opening ≡ o → q.chronicle.opening ≡ o → r.chronicle.ticks ≡ q.chronicle.ticks
    → r.windows ≡ q.windows → done_text r ++ record_lines json r ≡ done_text q ++ record_lines json q
same_record o json r q opens opens_too ticks windows = by json
  where
    opening : r.chronicle.opening ≡ q.chronicle.opening
    opening = opens ∙ sym opens_too

    by : (b : Bool) → done_text r ++ record_lines b r ≡ done_text q ++ record_lines b q
    by true = λ i. let now : RecordData = record { chronicle = record { opening = opening i; ticks = ticks i }; windows = windows i; version = r.version } in done_text now ++ record_lines true now
    by false = λ i. let now : RecordData = record { chronicle = record { opening = opening i; ticks = ticks i }; windows = windows i; version = r.version } in done_text now ++ record_lines false now

one_game : (o : OpeningData) (json : Bool) (lines : List (Option Said)) → HasNoBlock lines → (s t : List ℕ) → TellsGame o json lines s → TellsGame o json lines t → s ≡ t
one_game o json lines single s t one two =
    let first = subst (λ (x : OpeningData). IsRecorded (opened x.policy x.terrain x.names) one.deeds one.ending.chronicle.ticks one.game.last) one.opening one.game.recorded in
    let second = subst (λ (x : OpeningData). IsRecorded (opened x.policy x.terrain x.names) two.deeds two.ending.chronicle.ticks two.game.last) two.opening two.game.recorded in
    let same = same_all o.policy o.names lines single (opened o.policy o.terrain o.names) [] one.deeds two.deeds one.replies two.replies one.ending.chronicle.ticks two.ending.chronicle.ticks
    one.game.last two.game.last one.says two.says first second in
    let windows : one.ending.windows ≡ two.ending.windows = sym one.game.windows ∙ ap (λ (p : PlayData). map entries_of p.sectors) same.ends ∙ two.game.windows in
    one.whole ∙ (λ i. same.text i ++ same_record o json one.ending two.ending one.opening two.opening same.on_record windows i) ∙ sym two.whole

-- what stands before the first faulty line
one_front : (names : List (List ℕ)) (rs : Regions) (front other : List (Option Said)) (faulty wrong : Option Said) (behind rest : List (Option Said))
    (done former one two : List DeedData) (s t : List ℕ) → HasNoBlock front → HasNoBlock other → RepliesAll rs names Outside front done one s → RepliesAll rs names Outside other former two t
    → stands_outside names faulty ≡ false → stands_outside names wrong ≡ false → front ++ faulty ∷ behind ≡ other ++ wrong ∷ rest → front ≡ other
one_front names rs [] [] faulty wrong behind rest done former one two s t single plain says again bad bad_too parts = refl
one_front names rs [] (y ∷ other) faulty wrong behind rest done former one two s t single plain says again bad bad_too parts =
    let here : faulty ≡ y = cc in
    absurd (cc (bad, again.stands, here))
one_front names rs (x ∷ front) [] faulty wrong behind rest done former one two s t single plain says again bad bad_too parts =
    let here : x ≡ wrong = cc in
    absurd (cc (bad_too, says.stands, here))
one_front names rs (x ∷ front) (y ∷ other) faulty wrong behind rest done former one two s t single plain says again bad bad_too parts =
    let here : x ≡ y = cc in
    let behind_it = one_front names rs front other faulty wrong behind rest (done ++ says.now) (former ++ again.now) says.later again.later says.rest again.rest single.1 plain.1
    (subst (λ stage. RepliesAll rs names stage front (done ++ says.now) says.later says.rest) (stays x single.0) says.others)
    (subst (λ stage. RepliesAll rs names stage other (former ++ again.now) again.later again.rest) (stays y plain.0) again.others) bad bad_too (cc) in
    λ i. here i ∷ behind_it i

module _ (names : List (List ℕ)) (rs : Regions) (n k : ℕ) (lines : List (Option Said)) (single : HasNoBlock lines) where
  -- where lines without a block stop, one of them may not stand
  faulty_one : (front : List (Option Said)) → StopsAt names Outside n lines front k
      → (faulty : Option Said) × (behind : List (Option Said)) × (lines ≡ front ++ faulty ∷ behind) × HasNoBlock front × (stands_outside names faulty ≡ false)
  faulty_one front (inl there) =
      let sound = front_single front (there.faulty ∷ there.behind) (subst HasNoBlock there.parts single) in
      (there.faulty, there.behind, there.parts, sound, subst (λ stage. may_stand names stage there.faulty ≡ false) (ends_outside names front sound) there.stands)
  faulty_one front (inr there) =
      absurd (cc (there.inside, ap is_inside (ends_outside names front (subst HasNoBlock there.all single))))

  pub same_front : (front other : List (Option Said)) (one two : List DeedData) (s t : List ℕ) → RepliesAll rs names Outside front [] one s → RepliesAll rs names Outside other [] two t
      → StopsAt names Outside n lines front k → StopsAt names Outside n lines other k → (front ≡ other) × HasNoBlock other
  same_front front other one two s t says again stops stops_too =
      let x = faulty_one front stops in
      let y = faulty_one other stops_too in
      (one_front names rs front other x.0 y.0 x.1 y.1 [] [] one two s t x.3 y.3 says again x.4 y.4 (sym x.2 ∙ y.2), y.3)

one_stop : (o : OpeningData) (n : ℕ) (lines : List (Option Said)) → HasNoBlock lines → (k : ℕ) (s t : List ℕ) → TellsUpTo o n lines k s → TellsUpTo o n lines k t → s ≡ t
one_stop o n lines single k s t one two =
    let front = same_front o.names o.policy n k lines single one.front two.front one.deeds two.deeds s t one.says two.says one.stops two.stops in
    let first = recorded (opened o.policy o.terrain o.names) one.deeds one.last one.played in
    let second = recorded (opened o.policy o.terrain o.names) two.deeds two.last two.played in
    let same = same_all o.policy o.names two.front front.1 (opened o.policy o.terrain o.names) [] one.deeds two.deeds s t first.0 second.0 one.last two.last
    (subst (λ ls. RepliesAll o.policy o.names Outside ls [] one.deeds s) front.0 one.says) two.says first.1 second.1 in
    same.text

body_one : (o : OpeningData) (json : Bool) (n : ℕ) (lines : List (Option Said)) → HasNoBlock lines → (s t : List ℕ) (fault : Option Fault) → BodyTells o json n lines s fault → BodyTells o json n lines t fault → s ≡ t
body_one o json n lines single s t None one two = one_game o json lines single s t one two
body_one o json n lines single s t (Some (Syntax k)) one two = one_stop o n lines single k s t one two
body_one o json n lines single s t (Some fault.HistoryFull) one two = absurd one
body_one o json n lines single s t (Some fault.NoMemory) one two = absurd one
body_one o json n lines single s t (Some fault.TooManyPlayers) one two = absurd one
body_one o json n lines single s t (Some (fault.Torn sector)) one two = absurd one
body_one o json n lines single s t (Some fault.PassMissing) one two = absurd one
body_one o json n lines single s t (Some (fault.ListsDiffer seat sector)) one two = absurd one
body_one o json n lines single s t (Some fault.NoView) one two = absurd one
body_one o json n lines single s t (Some fault.BadRegionFile) one two = absurd one
body_one o json n lines single s t (Some fault.ReadFailed) one two = absurd one
body_one o json n lines single s t (Some fault.WriteFailed) one two = absurd one

world_one : (json : Bool) (n : ℕ) (lines : List (Option Said)) → HasNoBlock lines → (s t : List ℕ) (fault again : Option Fault) (world : Result OpeningData Fault)
    → WorldTells json n lines s fault world → WorldTells json n lines t again world → s ≡ t
world_one json n lines single s t fault again (Err cause) one two = one.0 ∙ sym two.0
world_one json n lines single s t fault again (Ok o) one two =
    let faults : again ≡ fault = body_faults o json n lines t again two ∙ sym (body_faults o json n lines s fault one) in
    body_one o json n lines single s t fault one (subst (λ f. BodyTells o json n lines t f) faults two)

-- no block begins behind where the header ends
abbrev NoBlockBehind : HeaderEnd → Type 0
NoBlockBehind (Faulty cause) = Unit {0}
NoBlockBehind (Bare o n) = Unit {0}
NoBlockBehind (Begins o n first lines) = HasNoBlock (Some first ∷ lines)

none_taken : (n : ℕ) (next : Option Opening) (go : Opening → HeaderEnd) → ((o : Opening) → NoBlockBehind (go o)) → NoBlockBehind (or_faulty n next go)
none_taken n None go none = tt
none_taken n (Some o) go none = none o

none_begun : (n : ℕ) (may_stand : Bool) (o : Opening) (first : Said) (lines : List (Option Said)) → HasNoBlock (Some first ∷ lines)
    → NoBlockBehind (begins_if n may_stand (Begins o n first lines))
none_begun n true o first lines single = single
none_begun n false o first lines single = tt

line_single : (o : Opening) (n : ℕ) (line : Option Said) (lines : List (Option Said)) (go : Opening → HeaderEnd) → HasNoBlock (line ∷ lines)
    → ((next : Opening) → NoBlockBehind (go next)) → NoBlockBehind (header_line o n line go (λ first. Begins o n first lines))
unfolding header_line
line_single o n None lines go single none = tt
line_single o n (Some Nothing) lines go single none = none_taken n (header_after o Nothing) go none
line_single o n (Some (World sizes)) lines go single none = none_taken n (header_after o (World sizes)) go none
line_single o n (Some (Player name)) lines go single none = none_taken n (header_after o (Player name)) go none
line_single o n (Some (Set p part)) lines go single none = none_taken n (header_after o (Set p part)) go none
line_single o n (Some (Act name cmd)) lines go single none = none_begun n (is_named o.names name) o (Act name cmd) lines single
line_single o n (Some (Explain name action p)) lines go single none = none_begun n (is_named o.names name) o (Explain name action p) lines single
line_single o n (Some (Region e)) lines go single none = none_begun n (is_peopled o) o (Region e) lines single
line_single o n (Some Tick) lines go single none = none_begun n (is_peopled o) o Tick lines single
line_single o n (Some Together) lines go single none = none_begun n (is_peopled o) o Together lines single
line_single o n (Some End) lines go single none = none_taken n (header_after o End) go none

header_single : (o : Opening) (n : ℕ) (lines : List (Option Said)) → HasNoBlock lines → NoBlockBehind (header_end o n lines)
header_single o n [] single = tt
header_single o n (line ∷ lines) single =
    line_single o n line lines (λ next. header_end next (n + 1) lines) single (λ next. header_single next (n + 1) lines single.1)

end_one : (rs : Regions) (json : Bool) (end : HeaderEnd) → NoBlockBehind end → (s t : List ℕ) (fault again : Option Fault) → EndTells rs json end s fault → EndTells rs json end t again → s ≡ t
end_one rs json (Faulty cause) single s t fault again one two = one.0 ∙ sym two.0
end_one rs json (Bare o n) single s t fault again one two = by (is_peopled o) one two
  where
    by : (b : Bool) → BareTells rs json o n s fault b → BareTells rs json o n t again b → s ≡ t
    by true one two = world_one json n [] tt s t fault again (begun rs o n) one two
    by false one two = one.0 ∙ sym two.0
end_one rs json (Begins o n first lines) single s t fault again one two = world_one json n (Some first ∷ lines) single s t fault again (begun rs o n) one two

pub scripts_write_one_text : ScriptsWriteOneText
unfolding MayTell
scripts_write_one_text rs json script one other fault again plain first second =
    end_one rs json (header_end no_opening 1 (says_of script)) (header_single no_opening 1 (says_of script) plain) one other fault again first second

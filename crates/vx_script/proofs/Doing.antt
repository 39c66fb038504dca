-- Lines that are done in a session, and then others.
use Rattle.std.proofs.Common.{◌≡◌, ◌+◌, ℕ, true, false, inl, inr, List, [], ◌∷◌, ◌++◌, length, Option, refl, sym, ap, ◌∙◌, subst, append_assoc, append-nil, arith}
use Rattle.std.specs.Io.KnownBytes.{Keeps, Appends}
use Rattle.std.proofs.KnownBytes.{Appends-nil, Appends-kept, Appends-trans}
use Rattle.vx_region.specs.Regions.{Regions}
use Rattle.vx_record.specs.Openings.{OpeningData}
use Rattle.vx_audit.specs.Deeds.{DeedData}
use Rattle.vx_session.specs.Sessions.{SessionData, IsOf, opening_of, names_of}
use Rattle.vx_grammar.specs.ScriptLines.{Said}
use Rattle.vx_script.specs.Replies.{Replies, RepliesAll}
use Rattle.vx_script.specs.Sessions.{HasDone, StoppedAt}
use Rattle.vx_script.specs.Stages.{Stage, StopsAt, is_inside, may_stand, stage_after, stage_behind}
use Rattle.vx_script.specs.declared.fault.Fault.{Fault}
use Rattle.vx_script.specs.declared.fault.Fault.TheVariants.{Syntax}

-- the stage after one more line
pub behind_more : (names : List (List ℕ)) (stage : Stage) (xs : List (Option Said)) (x : Option Said)
    → stage_behind names stage (xs ++ x ∷ []) ≡ stage_after names (stage_behind names stage xs) x
behind_more names stage [] x = refl
behind_more names stage (y ∷ xs) x = behind_more names (stage_after names stage y) xs x

-- what lines do, and then others after them
pub replies_joined : (rs : Regions) (names : List (List ℕ)) (stage : Stage) (xs ys : List (Option Said)) (done one two : List DeedData) (s t : List ℕ)
    → RepliesAll rs names stage xs done one s → RepliesAll rs names (stage_behind names stage xs) ys (done ++ one) two t → RepliesAll rs names stage (xs ++ ys) done (one ++ two) (s ++ t)
replies_joined rs names stage [] ys done one two s t first then =
    subst (λ d. RepliesAll rs names stage ys done (d ++ two) (s ++ t)) (sym first.0)
    (subst (λ u. RepliesAll rs names stage ys done two (u ++ t)) (sym first.1)
    (subst (λ d. RepliesAll rs names stage ys d two t) (ap (λ d. done ++ d) first.0 ∙ append-nil done) then))
replies_joined rs names stage (x ∷ xs) ys done one two s t first then = record {
  now = first.now;
  reply = first.reply;
  stands = first.stands;
  replies = first.replies;
  later = first.later ++ two;
  rest = first.rest ++ t;
  others = replies_joined rs names (stage_after names stage x) xs ys (done ++ first.now) first.later two first.rest t first.others
      (subst (λ d. RepliesAll rs names (stage_behind names (stage_after names stage x) xs) ys d two t) (ap (λ d. done ++ d) first.deeds_are ∙ sym (append_assoc done first.now first.later)) then);
  deeds_are = ap (λ d. d ++ two) first.deeds_are ∙ append_assoc first.now first.later two;
  text_is = ap (λ u. u ++ t) first.text_is ∙ append_assoc first.reply first.rest t;
}

-- no line is done
pub none_done : (rs : Regions) (s : SessionData) (stage : Stage) (before after : Option (List ℕ)) → Keeps before after → HasDone rs s s stage [] before after
none_done rs s stage before after kept = record {
  deeds = [];
  text = [];
  opening = refl;
  written = Appends-kept before before after [] (Appends-nil before) kept;
  says = λ done is. ((refl, refl), subst (λ d. IsOf d s) (sym (append-nil done)) is);
}

-- one line is done
pub one_done : (rs : Regions) (old new : SessionData) (stage : Stage) (line : Option Said) (now : List DeedData) (reply : List ℕ) (before after : Option (List ℕ))
    → opening_of new ≡ opening_of old → Appends before after reply → may_stand (names_of old) stage line ≡ true
    → ((done : List DeedData) → IsOf done old → Replies rs (names_of old) stage done line now reply × IsOf (done ++ now) new)
    → HasDone rs old new stage (line ∷ []) before after
one_done rs old new stage line now reply before after opens written stands done_so = record {
  deeds = now;
  text = reply;
  opening = opens;
  written = written;
  says = λ done is.
      let it = done_so done is in (
        record {
          now = now;
          reply = reply;
          stands = stands;
          replies = it.0;
          later = [];
          rest = [];
          others = (refl, refl);
          deeds_are = sym (append-nil now);
          text_is = sym (append-nil reply);
        },
        it.1,
      );
}

-- lines are done, and then others
pub then_done : (rs : Regions) (s m n : SessionData) (stage : Stage) (xs ys : List (Option Said)) (a b c : Option (List ℕ))
    → HasDone rs s m stage xs a b → HasDone rs m n (stage_behind (names_of s) stage xs) ys b c → HasDone rs s n stage (xs ++ ys) a c
then_done rs s m n stage xs ys a b c first then = record {
  deeds = first.deeds ++ then.deeds;
  text = first.text ++ then.text;
  opening = then.opening ∙ first.opening;
  written = Appends-trans a b c first.text then.text first.written then.written;
  says = λ done is.
      let one = first.says done is in
      let two = then.says (done ++ first.deeds) one.1 in (
        replies_joined rs (names_of s) stage xs ys done first.deeds then.deeds first.text then.text one.0
            (subst (λ (o : OpeningData). RepliesAll rs o.names (stage_behind (names_of s) stage xs) ys (done ++ first.deeds) then.deeds then.text) first.opening two.0),
        subst (λ d. IsOf d n) (append_assoc done first.deeds then.deeds) two.1,
      );
}

-- nothing is written beside
pub kept_done : (rs : Regions) (s m : SessionData) (stage : Stage) (xs : List (Option Said)) (a b c : Option (List ℕ)) → HasDone rs s m stage xs a b → Keeps b c → HasDone rs s m stage xs a c
kept_done rs s m stage xs a b c first kept = record {
  deeds = first.deeds;
  text = first.text;
  opening = first.opening;
  written = Appends-kept a b c first.text first.written kept;
  says = first.says;
}

-- lines are done, and one after them is faulty
pub stops_after : (rs : Regions) (s m : SessionData) (stage : Stage) (n k : ℕ) (xs ys : List (Option Said)) (line : Option Said) (behind : List (Option Said)) (a b : Option (List ℕ)) (fault : Fault)
    → HasDone rs s m stage xs a b → ys ≡ xs ++ line ∷ behind → fault ≡ Syntax k → k ≡ n + length xs → may_stand (names_of m) (stage_behind (names_of s) stage xs) line ≡ false
    → StoppedAt rs s m stage n ys a b fault
stops_after rs s m stage n k xs ys line behind a b fault done parts is number stands = record {
  front = xs;
  line = k;
  stops = inl (record {
    faulty = line;
    behind = behind;
    parts = parts;
    number = number;
    stands = subst (λ (o : OpeningData). may_stand o.names (stage_behind (names_of s) stage xs) line ≡ false) done.opening stands;
  });
  number = is;
  done = done;
}

-- all lines are done, and they end in a block
pub stops_inside : (rs : Regions) (s m : SessionData) (stage : Stage) (n k : ℕ) (xs ys : List (Option Said)) (a b : Option (List ℕ)) (fault : Fault)
    → HasDone rs s m stage xs a b → ys ≡ xs → fault ≡ Syntax k → k + 1 ≡ n + length xs → is_inside (stage_behind (names_of s) stage xs) ≡ true → StoppedAt rs s m stage n ys a b fault
stops_inside rs s m stage n k xs ys a b fault done all is number inside = record {
  front = xs;
  line = k;
  stops = inr (record { all = all; number = number; inside = inside });
  number = is;
  done = done;
}

-- where lines stop, they stop with one more before them
later_stop : (names : List (List ℕ)) (stage : Stage) (n k : ℕ) (x : Option Said) (ys front : List (Option Said)) (line : ℕ) → k ≡ n + 1
    → StopsAt names (stage_after names stage x) k ys front line → StopsAt names stage n (x ∷ ys) (x ∷ front) line
later_stop names stage n k x ys front line number (inl there) =
    inl (record {
      faulty = there.faulty;
      behind = there.behind;
      parts = ap (λ ls. x ∷ ls) there.parts;
      number = omega (arith, number, there.number);
      stands = there.stands;
    })
later_stop names stage n k x ys front line number (inr there) =
    inr (record {
      all = ap (λ ls. x ∷ ls) there.all;
      number = omega (arith, number, there.number);
      inside = there.inside;
    })

-- a line is done, and lines after it are up to where they stop
pub stops_then : (rs : Regions) (s m l : SessionData) (stage : Stage) (n k : ℕ) (x : Option Said) (ys : List (Option Said)) (a b c : Option (List ℕ)) (fault : Fault)
    → HasDone rs s m stage (x ∷ []) a b → StoppedAt rs m l (stage_after (names_of s) stage x) k ys b c fault → k ≡ n + 1 → StoppedAt rs s l stage n (x ∷ ys) a c fault
stops_then rs s m l stage n k x ys a b c fault first then number = record {
  front = x ∷ then.front;
  line = then.line;
  stops = later_stop (names_of s) stage n k x ys then.front then.line number
      (subst (λ (o : OpeningData). StopsAt o.names (stage_after (names_of s) stage x) k ys then.front then.line) first.opening then.stops);
  number = then.number;
  done = then_done rs s m l stage (x ∷ []) then.front a b c first then.done;
}

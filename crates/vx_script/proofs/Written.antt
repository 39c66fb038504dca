-- What was written in the end, by what was done.
use Rattle.std.proofs.Common.{◌≡◌, ℕ, Bool, true, false, List, [], ◌∷◌, ◌++◌, Option, Some, None, Ok, Err, refl, sym, ◌∙◌, subst}
use Rattle.std.specs.Io.KnownBytes.{Keeps, Appends}
use Rattle.std.proofs.KnownBytes.{Appends-nil, Appends-kept, Appends-trans}
use Rattle.vx_region.specs.Regions.{Regions}
use Rattle.vx_record.specs.Openings.{OpeningData}
use Rattle.vx_play.specs.Plays.{opened}
use Rattle.vx_audit.specs.Deeds.{IsPlayed}
use Rattle.vx_audit.specs.Records.{RecordData}
use Rattle.vx_session.specs.Sessions.{SessionData, IsOf, opening_of, names_of}
use Rattle.vx_grammar.specs.ScriptLines.{Said}
use Rattle.vx_script.specs.declared.fault.Fault.{Fault}
use Rattle.vx_script.specs.declared.fault.Fault.TheVariants.{Syntax}
use Rattle.vx_script.specs.Headers.{Opening, Faulty, Bare, Begins, header_end, no_opening, says_of, is_peopled, begun}
use Rattle.vx_script.specs.Replies.{RepliesAll}
use Rattle.vx_script.specs.Sessions.{HasEnded, StoppedAt, EndsWith, IsPlayable}
use Rattle.vx_script.specs.Stages.{Outside}
use Rattle.vx_script.specs.Transcript.{BodyTells, WorldTells, BareTells, EndTells, MayTell, Wrote, WroteBody, WroteWorld, WroteBare, done_text, record_lines}

module _ (rs : Regions) (old s : SessionData) (json : Bool) (n : ℕ) (lines : List (Option Said)) (first : (opening_of old).policy ≡ rs) (nothing : IsOf [] old) where
  -- a body that was done to its end, and what is written behind the replies
  pub wrote_game : (r : RecordData) (a b c : Option (List ℕ)) → HasEnded rs old s Outside lines a b → EndsWith s r → Appends b c (done_text r ++ record_lines json r)
      → WroteBody (opening_of old) json n lines None a c
  wrote_game r a b c ended ends written =
      let done = ended.done in
      let says = done.says [] nothing in
      record {
        text = done.text ++ (done_text r ++ record_lines json r);
        written = Appends-trans a b c done.text (done_text r ++ record_lines json r) done.written written;
        tells = record {
          deeds = done.deeds;
          replies = done.text;
          says = subst (λ p. RepliesAll p (names_of old) Outside lines [] done.deeds done.text) (sym first) says.0;
          closed = ended.closed;
          ending = r;
          opening = ends.opening ∙ done.opening;
          sound = ends.sound;
          game = ends.game done.deeds says.1;
          whole = refl;
        };
      }

  -- a body that was done up to its first faulty line
  pub wrote_front : (fault : Fault) (a b : Option (List ℕ)) → StoppedAt rs old s Outside n lines a b fault → ((k : ℕ) → fault ≡ Syntax k → IsPlayable s)
      → WroteBody (opening_of old) json n lines (Some fault) a b
  wrote_front fault a b stop playable =
      let done = stop.done in
      let says = done.says [] nothing in
      let game = playable stop.line stop.number done.deeds says.1 in
      record {
        text = done.text;
        written = done.written;
        tells = subst (λ f. BodyTells (opening_of old) json n lines done.text (Some f)) (sym stop.number) (record {
          front = stop.front;
          stops = stop.stops;
          deeds = done.deeds;
          says = subst (λ p. RepliesAll p (names_of old) Outside stop.front [] done.deeds done.text) (sym first) says.0;
          last = game.0;
          played = subst (λ (o : OpeningData). IsPlayed (opened o.policy o.terrain o.names) done.deeds game.0) done.opening game.1;
        });
      }

-- a body in a world that was made
pub in_world : (rs : Regions) (json : Bool) (o : Opening) (n : ℕ) (lines : List (Option Said)) (fault : Option Fault) (a b : Option (List ℕ)) (opening : OpeningData)
    → begun rs o n ≡ Ok opening → WroteBody opening json n lines fault a b → WroteWorld rs json o n lines fault a b
in_world rs json o n lines fault a b opening made wrote = record {
  text = wrote.text;
  written = wrote.written;
  tells = subst (λ world. WorldTells json n lines wrote.text fault world) (sym made) wrote.tells;
}

-- a world that was not made
pub no_world : (rs : Regions) (json : Bool) (o : Opening) (n : ℕ) (lines : List (Option Said)) (fault : Fault) (a b : Option (List ℕ))
    → begun rs o n ≡ Err fault → Keeps a b → WroteWorld rs json o n lines (Some fault) a b
no_world rs json o n lines fault a b none kept = record {
  text = [];
  written = Appends-kept a a b [] (Appends-nil a) kept;
  tells = subst (λ world. WorldTells json n lines [] (Some fault) world) (sym none) (refl, refl);
}

-- a script that ends in its header, with a player in it or without
pub peopled : (rs : Regions) (json : Bool) (o : Opening) (n : ℕ) (fault : Option Fault) (a b : Option (List ℕ)) → is_peopled o ≡ true
    → WroteWorld rs json o n [] fault a b → WroteBare rs json o n fault a b
peopled rs json o n fault a b there wrote = record {
  text = wrote.text;
  written = wrote.written;
  tells = subst (λ p. BareTells rs json o n wrote.text fault p) (sym there) wrote.tells;
}

pub unpeopled : (rs : Regions) (json : Bool) (o : Opening) (n : ℕ) (a b : Option (List ℕ)) → is_peopled o ≡ false → Keeps a b → WroteBare rs json o n None a b
unpeopled rs json o n a b empty kept = record {
  text = [];
  written = Appends-kept a a b [] (Appends-nil a) kept;
  tells = subst (λ p. BareTells rs json o n [] None p) (sym empty) (refl, refl);
}

module _ (rs : Regions) (json : Bool) (script : List ℕ) (a b c : Option (List ℕ)) where
  -- a header that is faulty
  pub wrote_faulty : (fault : Fault) → header_end no_opening 1 (says_of script) ≡ Faulty fault → Keeps a b → Wrote rs json script (Some fault) a b
  unfolding MayTell
  wrote_faulty fault is kept = record {
    text = [];
    written = Appends-kept a a b [] (Appends-nil a) kept;
    may = subst (λ end. EndTells rs json end [] (Some fault)) (sym is) (refl, refl);
  }

  -- a header and no body
  pub wrote_bare : (fault : Option Fault) (o : Opening) (n : ℕ) → header_end no_opening 1 (says_of script) ≡ Bare o n → Keeps a b → WroteBare rs json o n fault b c
      → Wrote rs json script fault a c
  unfolding MayTell
  wrote_bare fault o n is kept wrote = record {
    text = wrote.text;
    written = Appends-trans a b c [] wrote.text (Appends-kept a a b [] (Appends-nil a) kept) wrote.written;
    may = subst (λ end. EndTells rs json end wrote.text fault) (sym is) wrote.tells;
  }

  -- a header and a body
  pub wrote_world : (fault : Option Fault) (o : Opening) (n : ℕ) (first : Said) (lines : List (Option Said)) → header_end no_opening 1 (says_of script) ≡ Begins o n first lines
      → Keeps a b → WroteWorld rs json o n (Some first ∷ lines) fault b c → Wrote rs json script fault a c
  unfolding MayTell
  wrote_world fault o n first lines is kept wrote = record {
    text = wrote.text;
    written = Appends-trans a b c [] wrote.text (Appends-kept a a b [] (Appends-nil a) kept) wrote.written;
    may = subst (λ end. EndTells rs json end wrote.text fault) (sym is) wrote.tells;
  }

  -- nothing is written beside
  pub wrote_kept : (fault : Option Fault) → Wrote rs json script fault a b → Keeps b c → Wrote rs json script fault a c
  wrote_kept fault wrote kept = record {
    text = wrote.text;
    written = Appends-kept a b c wrote.text wrote.written kept;
    may = wrote.may;
  }

-- What the end of a run says, by what the end is.
use Rattle.std.proofs.Common.{◌≡◌, ℕ, ◌<◌, ◌≤◌, ◌⊎◌, inl, inr, Bool, true, false, List, ◌++◌, length, Option, None, Result, Ok, Err, refl, sym, ap, subst, ◌∙◌, arith}
use Rattle.std.specs.Prelude.{IfSome, OnOk, OnErr, is_ok, if◌then◌else◌}
use Rattle.std.specs.List.{list_any}
use Rattle.std.specs.Io.KnownBytes.{Appends}
use Rattle.std.proofs.KnownBytes.{Appends-trans}
use Rattle.world_traits.specs.Causes.{HasCause}
use Rattle.world_traits.specs.Links.{Links}
use Rattle.plant_book.specs.Site.{SiteRecord}
use Rattle.plant_book.specs.Part.{PartRecord}
use Rattle.script_replay.specs.Lives.{life_text}
use Rattle.script_replay.specs.Replay.{IsReplay}
use Rattle.site_config.specs.SiteFile.{SiteFileRecord, IsSiteFile}
use Rattle.worker_turn.specs.Worker.{WorkerRecord}
use Rattle.operator_console.specs.declared.session.ConsoleEnd.{ConsoleEnd}
use Rattle.operator_console.specs.declared.session.ConsoleEnd.TheVariants as consoles
use Rattle.operator_console.specs.Transcript.{at_input, at_output}
use Rattle.site_run.specs.declared.report.Finish.{Finish}
use Rattle.site_run.specs.declared.report.Finish.TheVariants as finishes
use Rattle.site_run.specs.Report.{finish_behind, finish_of, found_full, lacks_memory, text_of_run, wrote_whole}
use Rattle.site_run.specs.Run.{IsRun}
use Rattle.stream_io.specs.Streams.{Change, Fails, GainsText, AppendsFront}
use Rattle.stream_io.proofs.Told.{if_some_all, if_some_more}
use Rattle.command_io.specs.declared.ended.Ended.{Ended}
use Rattle.command_io.specs.declared.ended.Ended.TheVariants as ends
use Rattle.command_io.specs.declared.live_fault.LiveFault.{LiveFault}
use Rattle.command_io.specs.Ends.{status_of}
use Rattle.command_io.specs.Site.{FindsNoSite, HasSiteCause}
use Rattle.command_io.proofs.Sites.{no_site_causes, no_site_due, no_site_memory, of_whole, read_causes, read_due}
use Rattle.run_command.specs.Run.{HasRunCause, IsRunDue, IsRunEnd, IsRunText, IsTold, TellsFullBook, TellsSafeLife, end_of, since, no_site, not_begun, ran, whole, cut_short, untold, broken_off}
use Rattle.run_command.proofs.Full.{full_life}

-- what was written of a run, by whether a write failed
pub told : {E : Type 0} (plant : PartRecord) (workers : List WorkerRecord) (ending : ConsoleEnd) (output : Change) (text : List ℕ) (result : Result (Unit {0}) E) (ended : Ended)
    → wrote_whole ending ≡ true → IsRunText plant workers text
    → HasCause output.faults_old output.faults_new result → OnOk result (Appends output.old output.new text) → OnErr result (AppendsFront output.old output.new text)
    → ended ≡ end_of (finish_of plant workers ending) (is_ok result) → IsTold plant workers ending output ended
told plant workers ending output text (Ok done) ended on is cause all front e = whole on (text, is, all, cause.kept) e
told plant workers ending output text (Err why) ended on is cause all front e = cut_short on cause.failed (text, is, front) e

-- ends by their statuses

read_fault_is : (ended : Ended) → status_of ended ≡ 6 → ended ≡ ends.ReadFault
read_fault_is ends.ReadFault e = refl
read_fault_is ends.Done e = absurd cc
read_fault_is ends.BadWords e = absurd cc
read_fault_is (ends.BadLine line kind) e = absurd cc
read_fault_is (ends.BadSite fault) e = absurd cc
read_fault_is (ends.BookFull calls) e = absurd cc
read_fault_is ends.WriteFault e = absurd cc
read_fault_is ends.NoMemory e = absurd cc
read_fault_is (ends.TooLong limit) e = absurd cc
read_fault_is (ends.Refused fault) e = absurd cc
read_fault_is (ends.BadBus fault) e = absurd cc

-- the statuses of a run that was told of
abbrev IsRunStatus : ℕ → Type 0
IsRunStatus status = (status ≡ 0) ⊎ ((status ≡ 5) ⊎ ((status ≡ 6) ⊎ ((status ≡ 7) ⊎ (status ≡ 8))))

end_status : (finish : Finish) (written : Bool) → IsRunStatus (status_of (end_of finish written))
end_status finishes.NoMemory written = inr (inr (inr (inr refl)))
end_status finishes.WriteFault written = inr (inr (inr (inl refl)))
end_status finishes.ReadFault true = inr (inr (inl refl))
end_status finishes.ReadFault false = inr (inr (inr (inl refl)))
end_status (finishes.BookFull calls) true = inr (inl refl)
end_status (finishes.BookFull calls) false = inr (inr (inr (inl refl)))
end_status finishes.Done true = inl refl
end_status finishes.Done false = inr (inr (inr (inl refl)))

told_status : (plant : PartRecord) (workers : List WorkerRecord) (ending : ConsoleEnd) (output : Change) (ended : Ended) → IsTold plant workers ending output ended → IsRunStatus (status_of ended)
told_status plant workers ending output ended (whole on gains e) = subst IsRunStatus (sym (ap status_of e)) (end_status (finish_of plant workers ending) true)
told_status plant workers ending output ended (cut_short on fails gains e) = subst IsRunStatus (sym (ap status_of e)) (end_status (finish_of plant workers ending) false)
told_status plant workers ending output ended (untold on nothing e) = inr (inr (inr (inr (ap status_of e))))
told_status plant workers ending output ended (broken_off off nothing e) = subst IsRunStatus (sym (ap status_of e)) (end_status (finish_of plant workers ending) true)

-- how a run finished, by its console

-- whether a worker lacked memory, and whether one found a book full
abbrev one_lacks : List WorkerRecord → Bool
one_lacks workers = list_any (λ worker. lacks_memory worker.state.step) workers

abbrev one_full : List WorkerRecord → Bool
one_full workers = list_any (λ worker. found_full worker.state.step) workers

abbrev finish_from : (lacks full : Bool) → (room : ℕ) → ConsoleEnd → Finish
finish_from lacks full room ending = if lacks then finishes.NoMemory else finish_behind room full ending

-- a console that wrote its last text whole has no fault of its output, and none was counted
unfailed : (ending : ConsoleEnd) (before now : ℕ) → wrote_whole ending ≡ true → HasCause before now (at_output ending) → now ≡ before
unfailed consoles.Ended before now on cause = cause.kept
unfailed consoles.Stopped before now on cause = cause.kept
unfailed consoles.ReadFault before now on cause = cause.kept
unfailed consoles.BookFull before now on cause = cause.kept
unfailed consoles.WriteFault before now on cause = absurd cc
unfailed consoles.NoMemory before now on cause = absurd cc

-- a run whose text was written is at no write fault
whole_status : (lacks full : Bool) (room : ℕ) (ending : ConsoleEnd) → wrote_whole ending ≡ true → status_of (end_of (finish_from lacks full room ending) true) ≡ 7 → ⊥
whole_status true full room ending on e = absurd cc
whole_status false full room consoles.ReadFault on e = absurd cc
whole_status false full room consoles.BookFull on e = absurd cc
whole_status false true room consoles.Ended on e = absurd cc
whole_status false true room consoles.Stopped on e = absurd cc
whole_status false false room consoles.Ended on e = absurd cc
whole_status false false room consoles.Stopped on e = absurd cc
whole_status false full room consoles.WriteFault on e = absurd cc
whole_status false full room consoles.NoMemory on e = absurd cc

cut_status : (finish : Finish) → (status_of (end_of finish false) ≡ 7) ⊎ (status_of (end_of finish false) ≡ 8)
cut_status finishes.NoMemory = inr refl
cut_status finishes.WriteFault = inl refl
cut_status finishes.ReadFault = inl refl
cut_status (finishes.BookFull calls) = inl refl
cut_status finishes.Done = inl refl

-- a run that was broken off ran out of memory, or a write of its console failed
broken_status : (lacks full : Bool) (room : ℕ) (ending : ConsoleEnd) → wrote_whole ending ≡ false
    → (status_of (end_of (finish_from lacks full room ending) true) ≡ 8) ⊎ ((ending ≡ consoles.WriteFault) × (status_of (end_of (finish_from lacks full room ending) true) ≡ 7))
broken_status true full room ending off = inl refl
broken_status false full room consoles.NoMemory off = inl refl
broken_status false full room consoles.WriteFault off = inr (refl, refl)
broken_status false full room consoles.Ended off = absurd cc
broken_status false full room consoles.Stopped off = absurd cc
broken_status false full room consoles.ReadFault off = absurd cc
broken_status false full room consoles.BookFull off = absurd cc

-- a run that ends at a read fault is one whose console does
read_fault_of : (lacks full : Bool) (room : ℕ) (ending : ConsoleEnd) → status_of (end_of (finish_from lacks full room ending) true) ≡ 6 → ending ≡ consoles.ReadFault
read_fault_of true full room ending e = absurd cc
read_fault_of false full room consoles.ReadFault e = refl
read_fault_of false full room consoles.BookFull e = absurd cc
read_fault_of false true room consoles.Ended e = absurd cc
read_fault_of false true room consoles.Stopped e = absurd cc
read_fault_of false false room consoles.Ended e = absurd cc
read_fault_of false false room consoles.Stopped e = absurd cc
read_fault_of false full room consoles.WriteFault e = absurd cc
read_fault_of false full room consoles.NoMemory e = absurd cc

abbrev IsComplete : Ended → Type 0
IsComplete ended = (ended ≡ ends.Done) ⊎ ((ended ≡ ends.NoMemory) ⊎ ((calls : ℕ) × (ended ≡ ends.BookFull calls)))

-- where no read and no write of the console failed
complete_end : (lacks full : Bool) (room : ℕ) (ending : ConsoleEnd) → (ending ≡ consoles.ReadFault → ⊥) → (ending ≡ consoles.WriteFault → ⊥) → IsComplete (end_of (finish_from lacks full room ending) true)
complete_end true full room ending read write = inr (inl refl)
complete_end false full room consoles.ReadFault read write = absurd (read refl)
complete_end false full room consoles.WriteFault read write = absurd (write refl)
complete_end false full room consoles.NoMemory read write = inr (inl refl)
complete_end false full room consoles.BookFull read write = inr (inr (room, refl))
complete_end false true room consoles.Ended read write = inr (inr (room, refl))
complete_end false true room consoles.Stopped read write = inr (inr (room, refl))
complete_end false false room consoles.Ended read write = inl refl
complete_end false false room consoles.Stopped read write = inl refl

told_complete : (plant : PartRecord) (workers : List WorkerRecord) (ending : ConsoleEnd) (output : Change) (ended : Ended) → IsTold plant workers ending output ended
    → (wrote_whole ending ≡ true → Fails output → ⊥) → (ending ≡ consoles.ReadFault → ⊥) → (ending ≡ consoles.WriteFault → ⊥) → IsComplete ended
told_complete plant workers ending output ended (whole on gains e) none read write =
    subst IsComplete (sym e) (complete_end (one_lacks workers) (one_full workers) plant.site.room ending read write)
told_complete plant workers ending output ended (cut_short on fails gains e) none read write = absurd (none on fails)
told_complete plant workers ending output ended (untold on nothing e) none read write = inr (inl e)
told_complete plant workers ending output ended (broken_off off nothing e) none read write =
    subst IsComplete (sym e) (complete_end (one_lacks workers) (one_full workers) plant.site.room ending read write)

-- a read fault of a run is one of its console
told_read_fault : (plant : PartRecord) (workers : List WorkerRecord) (ending : ConsoleEnd) (output : Change) (ended : Ended) → status_of ended ≡ 6 → IsTold plant workers ending output ended
    → ending ≡ consoles.ReadFault
told_read_fault plant workers ending output ended six (whole on gains e) = read_fault_of (one_lacks workers) (one_full workers) plant.site.room ending (sym (ap status_of e) ∙ six)
told_read_fault plant workers ending output ended six (cut_short on fails gains e) = absurd (omega (arith, six, ap status_of e, cut_status (finish_of plant workers ending)))
told_read_fault plant workers ending output ended six (untold on nothing e) = absurd (omega (arith, six, ap status_of e))
told_read_fault plant workers ending output ended six (broken_off off nothing e) = read_fault_of (one_lacks workers) (one_full workers) plant.site.room ending (sym (ap status_of e) ∙ six)

-- a failed write of a run is one behind its console, which wrote all, or the console's own
told_write_fault : (plant : PartRecord) (workers : List WorkerRecord) (ending : ConsoleEnd) (output : Change) → IsTold plant workers ending output ends.WriteFault
    → ((wrote_whole ending ≡ true) × Fails output) ⊎ ((ending ≡ consoles.WriteFault) × (output.faults_new ≡ output.faults_old))
told_write_fault plant workers ending output (whole on gains e) =
    absurd (whole_status (one_lacks workers) (one_full workers) plant.site.room ending on (sym (ap status_of e)))
told_write_fault plant workers ending output (cut_short on fails gains e) = inl (on, fails)
told_write_fault plant workers ending output (untold on nothing e) = absurd (omega (arith, ap status_of e))
told_write_fault plant workers ending output (broken_off off nothing e) = elim (broken_status (one_lacks workers) (one_full workers) plant.site.room ending off) [
  | inl eight ↦ absurd (omega (arith, eight, ap status_of e))
  | inr write ↦ inr (write.0, nothing.1)
]

-- a text that was written whole, at an end below that of a write that failed
told_whole_of : (plant : PartRecord) (workers : List WorkerRecord) (ending : ConsoleEnd) (output : Change) (ended : Ended) → status_of ended < 7 → IsTold plant workers ending output ended
    → (wrote_whole ending ≡ true) × GainsText (IsRunText plant workers) output × (ended ≡ end_of (finish_of plant workers ending) true)
told_whole_of plant workers ending output ended below (whole on gains e) = (on, gains, e)
told_whole_of plant workers ending output ended below (cut_short on fails gains e) = absurd (omega (arith, ap status_of e, cut_status (finish_of plant workers ending), below))
told_whole_of plant workers ending output ended below (untold on nothing e) = absurd (omega (arith, ap status_of e, below))
told_whole_of plant workers ending output ended below (broken_off off nothing e) = elim (broken_status (one_lacks workers) (one_full workers) plant.site.room ending off) [
  | inl eight ↦ absurd (omega (arith, eight, ap status_of e, below))
  | inr write ↦ absurd (omega (arith, write.1, ap status_of e, below))
]

-- the finish of a run whose text was written whole
abbrev finish_by : Ended → Finish
finish_by ends.Done = finishes.Done
finish_by (ends.BookFull calls) = finishes.BookFull calls
finish_by ends.ReadFault = finishes.ReadFault
finish_by ends.WriteFault = finishes.WriteFault
finish_by _ = finishes.NoMemory

finish_back : (finish : Finish) → finish_by (end_of finish true) ≡ finish
finish_back finishes.Done = refl
finish_back (finishes.BookFull calls) = refl
finish_back finishes.ReadFault = refl
finish_back finishes.WriteFault = refl
finish_back finishes.NoMemory = refl

-- a command that was given no site file ends at no full book, and isn't done; at a read fault the site file failed
no_site_above : (ended : Ended) (read : List ℕ) (site : Change) → FindsNoSite ended read site → ((status_of ended < 4) ⊎ (status_of ended ≡ 5)) ⊎ ((status_of ended ≡ 6) × (Fails site → ⊥)) → ⊥
no_site_above (ends.BadSite fault) read site row below = omega (arith, below)
no_site_above ends.ReadFault read site row (inl below) = omega (arith, below)
no_site_above ends.ReadFault read site row (inr works) = works.1 row.0
no_site_above ends.NoMemory read site row below = omega (arith, below)
no_site_above (ends.TooLong limit) read site row below = omega (arith, below)
no_site_above ends.Done read site row below = row
no_site_above ends.BadWords read site row below = row
no_site_above ends.WriteFault read site row below = row
no_site_above (ends.BadLine line kind) read site row below = row
no_site_above (ends.BookFull calls) read site row below = row
no_site_above (ends.Refused fault) read site row below = row
no_site_above (ends.BadBus fault) read site row below = row

module _ {N : Type 0} (links : N → Option Links) (faults : N → ℕ) (may_give : ℕ → Bool) (turns : ℕ) (read : List ℕ) (site console output : Change) (dialers dialers_now : List N) where
  abbrev IsEnd : Ended → Type 0
  IsEnd ended = IsRunEnd links faults may_give turns read site console output dialers dialers_now ended

  -- that what a console wrote, and behind it the text of the run, is replayed as the text of the life
  abbrev pub Replays : Type 0
  Replays = (file : SiteFileRecord) (plant : PartRecord) (workers : List WorkerRecord) (ending : ConsoleEnd) (left left_now taken taken_now : Option (List ℕ))
      (run : IsRun links faults may_give file turns dialers dialers_now plant workers ending left left_now taken taken_now)
      → wrote_whole ending ≡ true → (shown : List ℕ) × Appends taken taken_now shown × IsReplay (shown ++ text_of_run plant workers) None (life_text run.life)

  site_causes : (ended : Ended) → IsEnd ended → (ended ≡ ends.ReadFault → ⊥) → HasSiteCause ended site
  site_causes ended (no_site row same nothing dials) no_fault = no_site_causes ended read site row
  site_causes ended (not_begun file reads same nothing dials e) no_fault =
      read_causes file ended read site reads (λ four. omega (arith, four, ap status_of e), λ six. no_fault (read_fault_is ended six), λ nine. omega (arith, nine, ap status_of e))
  site_causes ended (ran file plant workers ending shown shown_faults reads run input written told) no_fault =
      let status = told_status plant workers ending (since shown shown_faults output) ended told in
      read_causes file ended read site reads (λ four. omega (arith, four, status), λ six. no_fault (read_fault_is ended six), λ nine. omega (arith, nine, status))

  -- a read of the console failed where it ended so
  input_fails : (ending : ConsoleEnd) → ending ≡ consoles.ReadFault → HasCause console.faults_old console.faults_new (at_input ending) → Fails console
  input_fails ending e cause =
      let at : HasCause console.faults_old console.faults_new (at_input consoles.ReadFault) = subst (λ (end : ConsoleEnd). HasCause console.faults_old console.faults_new (at_input end)) e cause in
      at.failed

  output_fails : (ending : ConsoleEnd) (shown_faults : ℕ) → ending ≡ consoles.WriteFault → HasCause output.faults_old shown_faults (at_output ending) → output.faults_new ≡ shown_faults → Fails output
  output_fails ending shown_faults e cause same =
      let at : HasCause output.faults_old shown_faults (at_output consoles.WriteFault) = subst (λ (end : ConsoleEnd). HasCause output.faults_old shown_faults (at_output end)) e cause in
      omega (arith, at.failed, same)

  -- a write that failed behind a console that wrote all
  later_fails : (ending : ConsoleEnd) (shown : Option (List ℕ)) (shown_faults : ℕ) → wrote_whole ending ≡ true → HasCause output.faults_old shown_faults (at_output ending)
      → Fails (since shown shown_faults output) → Fails output
  later_fails ending shown shown_faults on cause fails =
      subst (λ (n : ℕ). Fails (record { old = output.old; new = output.new; faults_old = n; faults_new = output.faults_new })) (unfailed ending output.faults_old shown_faults on cause) fails

  read_fault : IsEnd ends.ReadFault → Fails site ⊎ Fails console
  read_fault (no_site row same nothing dials) = inl row.0
  read_fault (not_begun file reads same nothing dials e) = absurd (omega (arith, ap status_of e))
  read_fault (ran file plant workers ending shown shown_faults reads run input written told) =
      inr (input_fails ending (told_read_fault plant workers ending (since shown shown_faults output) ends.ReadFault refl told) input)

  pub causes : (ended : Ended) → IsEnd ended → HasRunCause ended site console
  causes ended end = record {
    file = site_causes ended end;
    read_fault = λ e. read_fault (subst IsEnd e end);
  }

  pub write_fault : IsEnd ends.WriteFault → Fails output
  write_fault (no_site row same nothing dials) = absurd row
  write_fault (not_begun file reads same nothing dials e) = absurd (omega (arith, ap status_of e))
  write_fault (ran file plant workers ending shown shown_faults reads run input written told) = elim (told_write_fault plant workers ending (since shown shown_faults output) told) [
    | inl later ↦ later_fails ending shown shown_faults later.0 written later.1
    | inr own ↦ output_fails ending shown_faults own.0 written own.1
  ]

  pub not_refused : (fault : LiveFault) → IsEnd (ends.Refused fault) → ⊥
  not_refused fault (no_site row same nothing dials) = row
  not_refused fault (not_begun file reads same nothing dials e) = omega (arith, ap status_of e)
  not_refused fault (ran file plant workers ending shown shown_faults reads run input written told) =
      omega (arith, told_status plant workers ending (since shown shown_faults output) (ends.Refused fault) told)

  ran_complete : (plant : PartRecord) (workers : List WorkerRecord) (ending : ConsoleEnd) (shown : Option (List ℕ)) (shown_faults : ℕ) (ended : Ended)
      → HasCause console.faults_old console.faults_new (at_input ending) → HasCause output.faults_old shown_faults (at_output ending) → IsTold plant workers ending (since shown shown_faults output) ended
      → (Fails console → ⊥) → (Fails output → ⊥) → IsComplete ended
  ran_complete plant workers ending shown shown_faults ended input written (whole on gains e) no_read no_write =
      told_complete plant workers ending (since shown shown_faults output) ended (whole on gains e) (λ on fails. no_write (later_fails ending shown shown_faults on written fails))
      (λ is. no_read (input_fails ending is input)) (λ is. no_write (output_fails ending shown_faults is written gains.3))
  ran_complete plant workers ending shown shown_faults ended input written (cut_short on fails gains e) no_read no_write = absurd (no_write (later_fails ending shown shown_faults on written fails))
  ran_complete plant workers ending shown shown_faults ended input written (untold on nothing e) no_read no_write = inr (inl e)
  ran_complete plant workers ending shown shown_faults ended input written (broken_off off nothing e) no_read no_write =
      told_complete plant workers ending (since shown shown_faults output) ended (broken_off off nothing e) (λ on fails. no_write (later_fails ending shown shown_faults on written fails))
      (λ is. no_read (input_fails ending is input)) (λ is. no_write (output_fails ending shown_faults is written nothing.1))

  pub due : (ended : Ended) → IsEnd ended → IsRunDue ended site console output
  due ended (no_site row same nothing dials) = record {
    complete = if_some_more site.old _ _ (λ bytes known short file is no_fault no_read no_write. inr (inl (known short file is no_fault))) (no_site_memory ended read site row);
    bad_site = no_site_due ended read site row;
  }
  due ended (not_begun file reads same nothing dials e) = record {
    complete = if_some_all site.old _ (λ bytes short found is no_fault no_read no_write. inr (inl e));
    bad_site = read_due file ended read site reads;
  }
  due ended (ran file plant workers ending shown shown_faults reads run input written told) = record {
    complete = if_some_all site.old _ (λ bytes short found is no_fault no_read no_write. ran_complete plant workers ending shown shown_faults ended input written told no_read no_write);
    bad_site = read_due file ended read site reads;
  }

  -- all that was written where the text of the run was written whole
  all_written : (replays : Replays) (file : SiteFileRecord) (plant : PartRecord) (workers : List WorkerRecord) (ending : ConsoleEnd) (shown : Option (List ℕ)) (shown_faults : ℕ)
      (run : IsRun links faults may_give file turns dialers dialers_now plant workers ending console.old console.new output.old shown) → wrote_whole ending ≡ true
      → HasCause output.faults_old shown_faults (at_output ending) → GainsText (IsRunText plant workers) (since shown shown_faults output)
      → GainsText (λ text. IsReplay text None (life_text run.life)) output
  all_written replays file plant workers ending shown shown_faults run on written gains =
      let front = replays file plant workers ending console.old console.new output.old shown run on in (
        front.0 ++ gains.0,
        subst (λ (text : List ℕ). IsReplay (front.0 ++ text) None (life_text run.life)) (sym gains.1) front.2,
        Appends-trans output.old shown output.new front.0 gains.0 front.1 gains.2,
        gains.3 ∙ unfailed ending output.faults_old shown_faults on written,
      )

  -- a life that is told of at an end below that of a write that failed
  safe_below : Replays → (ended : Ended) → ((status_of ended < 4) ⊎ (status_of ended ≡ 5)) ⊎ ((status_of ended ≡ 6) × (Fails site → ⊥)) → IsEnd ended → GainsText TellsSafeLife output
  safe_below replays ended below (no_site row same nothing dials) = absurd (no_site_above ended read site row below)
  safe_below replays ended below (not_begun file reads same nothing dials e) = absurd (omega (arith, ap status_of e, below))
  safe_below replays ended below (ran file plant workers ending shown shown_faults reads run input written told) =
      let gains = told_whole_of plant workers ending (since shown shown_faults output) ended (omega (arith, below)) told in
      let all = all_written replays file plant workers ending shown shown_faults run gains.0 written gains.1 in
      (all.0, record { life = run.life; answered = run.answered; safe = run.safe; replays = all.1 }, all.2, all.3)

  pub safe_life : Replays → (ended : Ended) → IsEnd ended → (ended ≡ ends.Done) ⊎ (((ended ≡ ends.ReadFault) × (Fails site → ⊥)) ⊎ ((calls : ℕ) × (ended ≡ ends.BookFull calls))) → GainsText TellsSafeLife output
  safe_life replays ended end (inl e) = safe_below replays ended (inl (inl (omega (arith, ap status_of e)))) end
  safe_life replays ended end (inr (inl (e, works))) = safe_below replays ended (inr (ap status_of e, works)) end
  safe_life replays ended end (inr (inr (calls, e))) = safe_below replays ended (inl (inr (ap status_of e))) end

  full_run : Replays → (calls : ℕ) (file : SiteFileRecord) (plant : PartRecord) (workers : List WorkerRecord) (ending : ConsoleEnd) (shown : Option (List ℕ)) (shown_faults : ℕ) → IsSiteFile read file
      → IsRun links faults may_give file turns dialers dialers_now plant workers ending console.old console.new output.old shown
      → HasCause output.faults_old shown_faults (at_output ending)
      → IsTold plant workers ending (since shown shown_faults output) (ends.BookFull calls) → GainsText (TellsFullBook calls read) output
  full_run replays calls file plant workers ending shown shown_faults is run written told =
      let gains = told_whole_of plant workers ending (since shown shown_faults output) (ends.BookFull calls) (omega arith) told in
      let all = all_written replays file plant workers ending shown shown_faults run gains.0 written gains.1 in
      let finish : finish_of plant workers ending ≡ finishes.BookFull calls = sym (finish_back (finish_of plant workers ending)) ∙ ap finish_by (sym gains.2) in
      let full = full_life links faults may_give file turns dialers dialers_now plant workers ending console.old console.new output.old shown calls run finish in
      let site : run.life.last.site ≡ file.site = ap (λ (p : PartRecord). p.site) (sym run.last) ∙ run.site in
      let room : calls ≡ file.site.room = sym full.1 ∙ ap (λ (s : SiteRecord). s.room) run.site in (
        all.0,
        record { file = file; is_file = is; room = room; life = run.life; site = site; answered = run.answered; full = full.0; replays = all.1 },
        all.2,
        all.3,
      )

  pub book_full : Replays → (calls : ℕ) → IsEnd (ends.BookFull calls) → IfSome site.old (λ bytes. GainsText (TellsFullBook calls bytes) output)
  book_full replays calls (no_site row same nothing dials) = absurd row
  book_full replays calls (not_begun file reads same nothing dials e) = absurd (omega (arith, ap status_of e))
  book_full replays calls (ran file plant workers ending shown shown_faults reads run input written told) =
      of_whole read site (λ bytes. GainsText (TellsFullBook calls bytes) output) reads.whole (full_run replays calls file plant workers ending shown shown_faults reads.is_file run written told)

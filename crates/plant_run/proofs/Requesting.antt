-- What a run handled on each link, and what the ledger numbered there.
use Rattle.std.proofs.Common.{◌≡◌, ℕ, ◌+◌, ◌≤◌, Bool, true, false, List, [], ◌∷◌, ◌++◌, length, inl, inr, refl, sym, ap, subst, ◌∙◌, arith, append-nil, append_assoc, length-append}
use Rattle.std.specs.Prelude.{◌==◌}
use Rattle.std.specs.List.{AllByRecursion}
use Rattle.std.proofs.lemmas.List.Concat.{flat_map-append}
use Rattle.std.proofs.lemmas.List.Elements.{filter-append}
use Rattle.plant_book.specs.declared.call.Call.TheVariants as call
use Rattle.plant_book.specs.declared.call.Reply.TheVariants as reply
use Rattle.plant_book.specs.declared.book.Entry.{Entry}
use Rattle.inverter_worker.specs.declared.job.Job.{Job}
use Rattle.inverter_worker.specs.declared.input.Input.{Input}
use Rattle.inverter_worker.specs.declared.input.Input.TheVariants as input
use Rattle.inverter_worker.specs.declared.output.Asked.{Asked}
use Rattle.inverter_worker.specs.declared.output.Output.{Output}
use Rattle.inverter_worker.specs.declared.output.Output.TheVariants as output
use Rattle.inverter_worker.specs.declared.state.End.{End}
use Rattle.inverter_worker.specs.declared.state.State.{State}
use Rattle.inverter_worker.specs.declared.state.Step.{Step}
use Rattle.inverter_worker.specs.declared.state.Step.TheVariants.{Ready, Dialing, Timing, Over}
use Rattle.inverter_worker.specs.Requests.{requests_in, requests_out, request_next}
use Rattle.inverter_worker.specs.Runs.{RunStep, LeadsTo}
use Rattle.inverter_worker.proofs.Requests.{requests_kept}
use Rattle.worker_turn.specs.Agreeing.{made_by}
use Rattle.worker_turn.specs.Turning.{pending}
use Rattle.plant_run.specs.Acts.{Act, acts, is_dialed, before_links, on_links}
use Rattle.plant_run.specs.Works.{IsAtRest}
use Rattle.plant_run.specs.Requests.{linked_by, requested_by, link_of, links_in, requested, requests_on, AreNumbered, entries_in, handled, AreLinksOf}
use Rattle.plant_run.proofs.Numbering.{IsNumberedBy, sent_after, AreNumberedBy}
use Rattle.plant_run.proofs.Filtering.{of_link, IsBelow, all_joined, above, below_none, on_link, below_next, none_earlier}
use Rattle.plant_run.proofs.Linking.{before_more, on_more}
use Rattle.plant_run.proofs.Joining.{no_step}
use Rattle.plant_run.proofs.Entering.{is_entering, Move, by_move, Fits, kept, requested_here, linked_here}

-- the entries that an output makes come first, and there is one at most
made_few : (put : Output) (came : Input) → length (made_by put came) ≤ 1
made_few (output.Call called) (input.Reply answer) = omega arith
made_few (output.Release write at) (input.Reply answer) = omega arith
made_few put came = omega arith

record Front (links sent : ℕ) (first rest : List Entry) : Type 0 where
  requests : AllByRecursion (IsNumberedBy links sent) (requested first)
  entered : AllByRecursion (λ number. number ≡ links + 1) (links_in first)
  sent_now : ℕ
  behind : AreNumberedBy (links + length (links_in first)) sent_now rest

front : (links sent : ℕ) (first rest : List Entry) → length first ≤ 1 → AreNumberedBy links sent (first ++ rest) → Front links sent first rest
front links sent [] rest few all =
    let P : ℕ → Type 0 = λ n. AreNumberedBy n sent rest in
    let none : links ≡ links + 0 = omega arith in
    record { requests = tt; entered = tt; sent_now = sent; behind = subst P none all }
front links sent (entry ∷ []) rest few all =
    let P : List Asked → Type 0 = λ rs. AllByRecursion (IsNumberedBy links sent) rs in
    let Q : List ℕ → Type 0 = λ ns. AllByRecursion (λ number. number ≡ links + 1) ns in
    let now : ℕ = sent_after (linked_by entry.call entry.reply) (sent + length (requested_by entry.call entry.reply)) in
    let R : List ℕ → Type 0 = λ ns. AreNumberedBy (links + length ns) now rest in
    record {
      requests = subst P (sym (append-nil (requested_by entry.call entry.reply))) all.0;
      entered = subst Q (sym (append-nil (linked_by entry.call entry.reply))) all.1;
      sent_now = now;
      behind = subst R (sym (append-nil (linked_by entry.call entry.reply))) all.2;
    }
front links sent (entry ∷ another ∷ more) rest few all = absurd (omega (arith, few))

requested-append : (first rest : List Entry) → requested (first ++ rest) ≡ requested first ++ requested rest
requested-append first rest = flat_map-append (λ (entry : Entry). requested_by entry.call entry.reply) first rest

links-append : (first rest : List Entry) → links_in (first ++ rest) ≡ links_in first ++ links_in rest
links-append first rest = flat_map-append (λ (entry : Entry). linked_by entry.call entry.reply) first rest

on-append : (link : ℕ) (first rest : List Entry) → requests_on link (first ++ rest) ≡ of_link link (requested first) ++ requests_on link rest
on-append link first rest =
    ap (of_link link) (requested-append first rest) ∙ filter-append (λ (request : Asked). link_of request == link) (requested first) (requested rest)

-- what is to be sent or given back next: by the output, or by the step behind it
abbrev pub due : Step → Output → List Asked
due step put = requests_out put ++ request_next step

-- where a full book came of a call, one was full
abbrev pub AreFull : (full : Type 0) → List RunStep → Type 0
AreFull full run = AllByRecursion (λ one. one.input ≡ input.Full → full) run

module _ (full : Type 0) (all : List Entry) (rise : (link : ℕ) → 1 ≤ link → AreNumbered 1 (requests_on link all)) where
  -- what these acts come to where the last link was entered, so many in all
  pub record Entered (links : ℕ) (next : List Asked) (done : List Act) : Type 0 where
    pub own : handled (before_links done) ≡ next ++ requests_on links (entries_in done)
    pub none : links_in (entries_in (before_links done)) ≡ []
    pub rest : AreLinksOf full all (links + 1) (on_links done)

  -- and where one more was dialed
  pub record Entering (links : ℕ) (done : List Act) : Type 0 where
    pub none : requests_on links (entries_in done) ≡ []
    pub rest : AreLinksOf full all (links + 1) (before_links done ∷ on_links done)

  abbrev pub Comes : Bool → ℕ → List Asked → List Act → Type 0
  Comes false links next done = Entered links next done
  Comes true links next done = Entering links done

  -- what all entries come to before these acts
  pub record Before (links : ℕ) (done : List Act) : Type 0 where
    pub earlier : List Asked
    pub is : requested all ≡ earlier ++ requested (entries_in done)
    pub below : AllByRecursion (IsBelow (links + 1)) earlier
    pub count : length (links_in all) ≡ links + length (links_in (entries_in done))
    pub sent : ℕ
    pub numbered : AreNumberedBy links sent (entries_in done)

  module _ (links : ℕ) (put : Output) (came : Input) (later : List Act) (before : Before links (record { output = put; came = came } ∷ later)) where
    abbrev made : List Entry
    made = made_by put came

    split : Front links before.sent made (entries_in later)
    split = front links before.sent made (entries_in later) (made_few put came) before.numbered

    behind : Before (links + length (links_in made)) later
    behind = record {
      earlier = before.earlier ++ requested made;
      is = before.is ∙ ap (λ (t : List Asked). before.earlier ++ t) (requested-append made (entries_in later))
          ∙ sym (append_assoc before.earlier (requested made) (requested (entries_in later)));
      below = all_joined (IsBelow ((links + length (links_in made)) + 1)) before.earlier (requested made)
          (above (links + 1) ((links + length (links_in made)) + 1) before.earlier (omega arith) before.below)
          (above (links + 1) ((links + length (links_in made)) + 1) (requested made) (omega arith) (below_next links before.sent (requested made) split.requests));
      count = omega (arith, before.count, ap length (links-append made (entries_in later)), length-append (links_in made) (links_in (entries_in later)));
      sent = split.sent_now;
      numbered = split.behind;
    }

    behind_none : links_in made ≡ [] → Before links later
    behind_none none =
        let P : ℕ → Type 0 = λ n. Before n later in
        let same : links + length (links_in made) ≡ links = omega (arith, ap length none) in
        subst P same behind

    -- the link stays as it is
    along : (step next : Step) (put_next : Output) → Fits step put → is_entering step ≡ false → is_dialed came ≡ false
        → request_next step ++ requests_in step came ≡ requests_out put_next ++ request_next next
        → Entered links (due next put_next) later → Entered links (due step put) (record { output = put; came = came } ∷ later)
    along step next put_next fits not apart moved entered = record {
      own =
          ap handled (before_more act later apart)
          ∙ ap (λ (t : List Asked). requests_out put ++ t) entered.own
          ∙ ap (λ (t : List Asked). requests_out put ++ (t ++ requests_on links (entries_in later))) (sym moved)
          ∙ regroup (requests_out put) (request_next step) (requests_in step came) (requests_on links (entries_in later))
          ∙ ap (λ (t : List Asked). due step put ++ (t ++ requests_on links (entries_in later))) (sym (requested_here step put came fits))
          ∙ ap (λ (t : List Asked). due step put ++ (t ++ requests_on links (entries_in later))) (sym (on_link links before.sent (requested made) split.requests))
          ∙ ap (λ (t : List Asked). due step put ++ t) (sym (on-append links made (entries_in later)));
      none =
          ap (λ (t : List Act). links_in (entries_in t)) (before_more act later apart) ∙ links-append made (entries_in (before_links later))
          ∙ ap (λ (t : List ℕ). t ++ links_in (entries_in (before_links later))) (linked_here step put came not fits) ∙ entered.none;
      rest = let P : List (List Act) → Type 0 = λ t. AreLinksOf full all (links + 1) t in subst P (sym (on_more act later apart)) entered.rest;
    }
      where
        act : Act
        act = record { output = put; came = came }

        regroup : (a b c d : List Asked) → a ++ ((b ++ c) ++ d) ≡ (a ++ b) ++ (c ++ d)
        regroup a b c d = ap (λ (t : List Asked). a ++ t) (append_assoc b c d) ∙ sym (append_assoc a b (c ++ d))

  -- a link is dialed
  dials : (links raw : ℕ) (later : List Act) → Entering links later → Entered links (due (Dialing raw) output.Dial) (record { output = output.Dial; came = input.Dialed } ∷ later)
  dials links raw later entering = record { own = sym entering.none; none = refl; rest = entering.rest }

  -- the time comes for the call that enters it
  times : (links raw clock : ℕ) (later : List Act) → Entering links later → Entering links (record { output = output.Now; came = input.Time clock } ∷ later)
  times links raw clock later entering = record { none = entering.none; rest = more entering.rest }
    where
      more : AreLinksOf full all (links + 1) (before_links later ∷ on_links later)
          → AreLinksOf full all (links + 1) ((record { output = output.Now; came = input.Time clock } ∷ before_links later) ∷ on_links later)
      more (inl is) = inl (record { linked = is.0.linked; numbers = is.0.numbers; requests = is.0.requests }, is.1)
      more (inr is) = inr (record { was_full = is.0.was_full; calls = is.0.calls; requests = is.0.requests }, is.1, is.2)

  -- the ledger enters it
  enters : (links raw number at inverter : ℕ) (put_next : Output) (later : List Act)
      → (before : Before links (record { output = output.Call (call.Link at inverter); came = input.Reply (reply.Linked number) } ∷ later))
      → [] ≡ requests_out put_next ++ [] → Entered (links + 1) (due (Timing raw) put_next) later
      → Entering links (record { output = output.Call (call.Link at inverter); came = input.Reply (reply.Linked number) } ∷ later)
  enters links raw number at inverter put_next later before moved entered =
      let parts = split links (output.Call (call.Link at inverter)) (input.Reply (reply.Linked number)) later before in
      let same : number ≡ links + 1 = parts.entered.0 in
      record {
        none = none_earlier (entries_in later) (links + 1) parts.sent_now links (omega arith) parts.behind;
        rest = inl (
          record {
            linked = ap (λ (t : List ℕ). number ∷ t) entered.none ∙ ap (λ (n : ℕ). n ∷ []) same;
            numbers = rise (links + 1) (omega arith);
            requests =
                entered.own ∙ ap (λ (t : List Asked). t ++ requests_on (links + 1) (entries_in later)) (sym moved)
                ∙ sym (ap (of_link (links + 1)) before.is ∙ filter-append (λ (request : Asked). link_of request == (links + 1)) before.earlier (requested (entries_in later))
                ∙ ap (λ (t : List Asked). t ++ requests_on (links + 1) (entries_in later)) (below_none (links + 1) before.earlier before.below));
          },
          entered.rest,
        );
      }

  -- the book is full, and no act is left
  fills : (links at inverter : ℕ) → full → Before links (record { output = output.Call (call.Link at inverter); came = input.Full } ∷ [])
      → Entering links (record { output = output.Call (call.Link at inverter); came = input.Full } ∷ [])
  fills links at inverter was before = record {
    none = refl;
    rest = inr (record { was_full = was; calls = refl; requests = refl }, omega (arith, before.count), refl);
  }

  -- what one act takes back
  abbrev Back : Step → Input → Step → Type 0
  Back step came next = (links : ℕ) (put put_next : Output) (later : List Act) → Fits step put → Fits next put_next
      → request_next step ++ requests_in step came ≡ requests_out put_next ++ request_next next → (came ≡ input.Full → full)
      → ((end : End) → next ≡ Over end → later ≡ []) → Before links (record { output = put; came = came } ∷ later)
      → ((number : ℕ) → Before number later → Comes (is_entering next) number (due next put_next) later)
      → Comes (is_entering step) links (due step put) (record { output = put; came = came } ∷ later)

  back : (step : Step) (came : Input) (next : Step) → Move step came next → Back step came next
  back = by_move Back
      (λ step came next first last apart links put put_next later fits fits_next moved fulls over before rest.
      let P : Bool → Type 0 = λ b. Comes b links (due step put) (record { output = put; came = came } ∷ later) in
      let Q : Bool → Type 0 = λ b. Comes b links (due next put_next) later in
      subst P (sym first) (along links put came later before step next put_next fits first apart moved
      (subst Q last (rest links (behind_none links put came later before (linked_here step put came first fits))))))
      (λ raw links put put_next later fits fits_next moved fulls over before rest.
      let P : Output → Type 0 = λ o. Before links (record { output = o; came = input.Dialed } ∷ later)
      → Entered links (due (Dialing raw) o) (record { output = o; came = input.Dialed } ∷ later) in
      subst P (sym fits) (λ here. dials links raw later (rest links (behind_none links output.Dial input.Dialed later here refl))) before)
      (λ raw clock links put put_next later fits fits_next moved fulls over before rest.
      let P : Output → Type 0 = λ o. Before links (record { output = o; came = input.Time clock } ∷ later)
      → Entering links (record { output = o; came = input.Time clock } ∷ later) in
      subst P (sym fits) (λ here. times links raw clock later (rest links (behind_none links output.Now (input.Time clock) later here refl))) before)
      (λ raw number links put put_next later fits fits_next moved fulls over before rest.
      let P : Output → Type 0 = λ o. Before links (record { output = o; came = input.Reply (reply.Linked number) } ∷ later)
      → Entering links (record { output = o; came = input.Reply (reply.Linked number) } ∷ later) in
      subst P (sym fits.2) (λ here. enters links raw number fits.0 fits.1 put_next later here moved
      (rest (links + 1) (behind links (output.Call (call.Link fits.0 fits.1)) (input.Reply (reply.Linked number)) later here))) before)
      (λ raw end links put put_next later fits fits_next moved fulls over before rest.
      let P : Output → Type 0 = λ o. Before links (record { output = o; came = input.Full } ∷ later)
      → Entering links (record { output = o; came = input.Full } ∷ later) in
      let Q : List Act → Type 0 = λ t. Before links (record { output = output.Call (call.Link fits.0 fits.1); came = input.Full } ∷ t)
      → Entering links (record { output = output.Call (call.Link fits.0 fits.1); came = input.Full } ∷ t) in
      subst P (sym fits.2) (subst Q (sym (over end refl)) (λ here. fills links fits.0 fits.1 (fulls refl) here)) before)

  -- a run at rest leaves nothing to be sent or given back
  at_rest : (step : Step) (put : Output) (links : ℕ) → Fits step put → IsAtRest step put → length (links_in all) ≡ links → Comes (is_entering step) links (due step put) []
  at_rest Ready put links fits rests count =
      let P : Output → Type 0 = λ o. Entered links (due Ready o) [] in
      subst P (sym rests) (record { own = refl; none = refl; rest = omega (arith, count) })
  at_rest (Over end) put links fits rests count =
      let P : Output → Type 0 = λ o. Entered links (due (Over end) o) [] in
      subst P (sym fits) (record { own = refl; none = refl; rest = omega (arith, count) })
  at_rest step put links fits rests count = absurd rests

  -- the row of one step keeps what is to be sent or given back
  moved : (job : Job) (from next : State) (one : RunStep) → LeadsTo job from (one ∷ []) next
      → request_next from.step ++ requests_in from.step one.input ≡ requests_out one.output ++ request_next next.step
  moved job from next one leads =
      let P : State → Type 0 = λ state. request_next from.step ++ requests_in state.step one.input ≡ requests_out one.output ++ request_next next.step in
      subst P leads.0
      (ap (λ (t : List Asked). request_next from.step ++ t) (sym (append-nil (requests_in one.state.step one.input)))
      ∙ requests_kept job from next (one ∷ []) leads ∙ ap (λ (t : List Asked). t ++ request_next next.step) (append-nil (requests_out one.output)))

  pub walk : (job : Job) (run : List RunStep) (from last : State) (put : Output) (links : ℕ) → Fits from.step put → LeadsTo job from run last
      → IsAtRest last.step (pending put run) → AreFull full run → Before links (acts put run) → Comes (is_entering from.step) links (due from.step put) (acts put run)
  walk job [] from last put links fits leads rests fulls before =
      let P : State → Type 0 = λ state. Fits state.step put → Comes (is_entering state.step) links (due state.step put) [] in
      subst P (sym leads) (λ is. at_rest last.step put links is rests (omega (arith, before.count))) fits
  walk job (one ∷ run) from last put links fits leads rests fulls before =
      let next = leads.1.0 in
      let here = kept job from next one.input one.output leads.1.1.0 in
      back from.step one.input next.step here.0 links put one.output (acts one.output run) fits here.1
      (moved job from next one (leads.0, (next, (leads.1.1.0, refl)))) fulls.0
      (λ end over. ap (acts one.output) (no_step job next last run end over leads.1.1.1)) before
      (λ number behind. walk job run next last one.output number here.1 leads.1.1.1 rests fulls.1 behind)

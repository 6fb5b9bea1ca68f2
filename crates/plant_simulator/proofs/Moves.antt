-- How requests come on their way to a simulated inverter, and leave it.
use Rattle.std.proofs.Common.{◌≡◌, ℕ, ◌+◌, ◌≤◌, false, not, eqb, List, [], ◌∷◌, ◌++◌, take, drop, Some, refl, sym, ap, subst, ◌∙◌, arith}
use Rattle.std.specs.Prelude.{filter, slice_get}
use Rattle.std.specs.List.{AllByRecursion}
use Rattle.std.proofs.lemmas.Bool.{eq-eqb, ne_eqb, and_from}
use Rattle.plant_book.specs.declared.call.Write as writes
use Rattle.plant_book.specs.History.{link_of_grant}
use Rattle.plant_book.specs.Behaviour.{Act, Revert, Timed, IsAsked}
use Rattle.plant_book.proofs.Growing.{all_map, all_push, all_of}
use Rattle.plant_simulator.specs.declared.inverter.Request.{Request}
use Rattle.plant_simulator.specs.declared.inverter.Request.TheVariants as sent
use Rattle.plant_simulator.specs.declared.inverter.OldWrite.{OldWrite}
use Rattle.plant_simulator.specs.Inverter.{is_late_request, old_writes, is_of_link}
use Rattle.plant_simulator.proofs.Ranges.{all_filter, all_append, all_take, all_drop, all_at}
use Rattle.plant_simulator.proofs.Queue.{InOrder, order_append, order_without, order_at, all_filtered, not_passes, number_in, NotAbove, NotAboveOld, AskedUpTo, Stage, IsSent, IsGranted, IsOfGrant, IsUnderWay, IsStray, Queue, queue_event}

-- the link of a write of a life
pub link_of_life : (life place : ℕ) (write : writes.Write) → 1 ≤ life → link_of_grant (record { life = life; place = place; write = write }) ≡ (life, write.link)
link_of_life life place write from = rw (ne_eqb life 0 (λ none. omega (arith, from, none))) refl

-- the one request that an event is of
pub record IsOf (timed : Timed) (life at number : ℕ) : Type 0 where
  pub is : (link : ℕ × ℕ) (other : ℕ) → IsAsked timed.event link other → ((life, at) ≡ link) × (number ≡ other)

pub act_is_of : (moment place life : ℕ) (write : writes.Write) → 1 ≤ life → IsOf (record { at = moment; event = Act (record { life = life; place = place; write = write }) }) life write.link write.number
act_is_of moment place life write from = record { is = λ link other asked. (sym (link_of_life life place write from) ∙ asked.0, asked.1) }

module _ (timed : Timed) (life at number : ℕ) (its : IsOf timed life at number) where
  up_to_it : (link : ℕ × ℕ) (most : ℕ) → ((life, at) ≡ link → number ≤ most) → AskedUpTo link most timed
  up_to_it link most le = λ other asked. let is = its.is link other asked in omega (arith, le is.0, is.1)

  module _ (s : Stage) where
    sent_it : life ≤ s.lives → (life ≡ s.lives → at ≤ s.link) → (life ≡ s.lives → at ≡ s.link → number ≤ s.requests) → IsSent s timed
    sent_it one two three = λ other_life other_at other asked.
        let is = its.is (other_life, other_at) other asked in
        let life_is : life ≡ other_life = ap (λ (p : ℕ × ℕ). p.0) is.0 in
        let at_is : at ≡ other_at = ap (λ (p : ℕ × ℕ). p.1) is.0 in
        record {
          life_until = omega (arith, one, life_is);
          link_until = λ same. omega (arith, two (life_is ∙ same), at_is);
          number_until = λ same link. omega (arith, three (life_is ∙ same) (at_is ∙ link), is.1);
        }

    module _ (events : List Timed) (line : List Request) (strays : List OldWrite) where
      -- a request of the link that is on acts, or is looked at
      pub queue_asked : life ≡ s.lives → at ≡ s.link → s.bound ≤ s.link → number ≤ s.requests → AllByRecursion (λ request. number ≤ number_in request) line
          → Queue s events line strays → Queue s (events ++ timed ∷ []) line strays
      queue_asked of_life on_link bound high low queue =
          queue_event s events timed line strays queue
          (sent_it (omega (arith, of_life)) (λ same. omega (arith, on_link)) (λ same link. high))
          (all_map (λ request. number ≤ number_in request) (λ request. AskedUpTo (s.lives, s.link) (number_in request) timed) (λ request le. up_to_it (s.lives, s.link) (number_in request) (λ same. le)) line low)
          (all_map (IsStray s events) (λ stray. AskedUpTo (stray.life, stray.write.link) stray.write.number timed)
          (λ stray old. up_to_it (stray.life, stray.write.link) stray.write.number (λ same.
          let life_is : life ≡ stray.life = ap (λ (p : ℕ × ℕ). p.0) same in
          let at_is : at ≡ stray.write.link = ap (λ (p : ℕ × ℕ). p.1) same in
          absurd (omega (arith, old.old (sym life_is ∙ of_life), bound, at_is, on_link)))) strays queue.old_writes)

module _ (s : Stage) (events : List Timed) where
  -- the timer runs out
  pub queue_reverted : (moment : ℕ) (line : List Request) (strays : List OldWrite) → Queue s events line strays → Queue s (events ++ record { at = moment; event = Revert } ∷ []) line strays
  queue_reverted moment line strays queue =
      queue_event s events (record { at = moment; event = Revert }) line strays queue (λ life at number asked. absurd asked)
      (all_of (λ request. AskedUpTo (s.lives, s.link) (number_in request) (record { at = moment; event = Revert })) (λ request number asked. absurd asked) line)
      (all_of (λ stray. AskedUpTo (stray.life, stray.write.link) stray.write.number (record { at = moment; event = Revert })) (λ stray number asked. absurd asked) strays)

  -- an old write acts, and leaves with the earlier ones of its link
  module _ (line : List Request) (strays : List OldWrite) (place : ℕ) (chosen : OldWrite) (found : slice_get strays place ≡ Some chosen) (bound : s.bound ≤ s.link) (queue : Queue s events line strays) where
    abbrev left : List OldWrite
    left = filter (λ other. not (is_of_link chosen other)) (take (place + 1) strays) ++ drop (place + 1) strays

    pub the_stray : IsStray s events chosen
    the_stray = all_at (IsStray s events) strays place chosen queue.old_writes found

    abbrev the_act : ℕ → Timed
    the_act moment = record { at = moment; event = Act (record { life = chosen.life; place = the_stray.granted.place; write = chosen.write }) }

    the_act_is : (moment : ℕ) → IsOf (the_act moment) chosen.life chosen.write.link chosen.write.number
    the_act_is moment = act_is_of moment the_stray.granted.place chosen.life chosen.write the_stray.granted.from

    -- those that are left of its link are no earlier
    left_later : AllByRecursion (λ other. other.life ≡ chosen.life → other.write.link ≡ chosen.write.link → chosen.write.number ≤ other.write.number) left
    left_later =
        all_append _ (filter (λ other. not (is_of_link chosen other)) (take (place + 1) strays)) (drop (place + 1) strays)
        (all_filtered (λ other. Unit {0}) _ (λ other. not (is_of_link chosen other))
        (λ other any passes life link. absurd (let never = sym (not_passes (is_of_link chosen other) passes) ∙ and_from (eqb other.life chosen.life) (eqb other.write.link chosen.write.link) (eq-eqb other.life chosen.life life) (eq-eqb other.write.link chosen.write.link link) in cc))
        (take (place + 1) strays) (all_of (λ other. Unit {0}) (λ other. tt) (take (place + 1) strays)))
        (all_map (NotAboveOld chosen) _ (λ other behind life link. behind (sym life) (sym link)) (drop (place + 1) strays) (order_at NotAboveOld strays place chosen queue.old_in_order found))

    left_strays : AllByRecursion (IsStray s events) left
    left_strays =
        all_append (IsStray s events) (filter (λ other. not (is_of_link chosen other)) (take (place + 1) strays)) (drop (place + 1) strays)
        (all_filter (IsStray s events) (λ other. not (is_of_link chosen other)) (take (place + 1) strays) (all_take (IsStray s events) (place + 1) strays queue.old_writes))
        (all_drop (IsStray s events) (place + 1) strays queue.old_writes)

    pub queue_act_old : (moment : ℕ) → Queue s (events ++ the_act moment ∷ []) line left
    queue_act_old moment =
        queue_event s events (the_act moment) line left
        (record { sent = queue.sent; under_way = queue.under_way; in_order = queue.in_order; old_writes = left_strays; old_in_order = order_without NotAboveOld (λ other. not (is_of_link chosen other)) (place + 1) strays queue.old_in_order })
        (sent_it (the_act moment) chosen.life chosen.write.link chosen.write.number (the_act_is moment) s the_stray.until (λ same. omega (arith, the_stray.old same, bound)) (λ same link. absurd (omega (arith, the_stray.old same, bound, link))))
        (all_of (λ request. AskedUpTo (s.lives, s.link) (number_in request) (the_act moment))
        (λ request. up_to_it (the_act moment) chosen.life chosen.write.link chosen.write.number (the_act_is moment) (s.lives, s.link) (number_in request)
        (λ same. absurd (omega (arith, the_stray.old (ap (λ (p : ℕ × ℕ). p.0) same), bound, ap (λ (p : ℕ × ℕ). p.1) same)))) line)
        (all_map _ (λ other. AskedUpTo (other.life, other.write.link) other.write.number (the_act moment))
        (λ other later. up_to_it (the_act moment) chosen.life chosen.write.link chosen.write.number (the_act_is moment) (other.life, other.write.link) other.write.number
        (λ same. later (sym (ap (λ (p : ℕ × ℕ). p.0) same)) (sym (ap (λ (p : ℕ × ℕ). p.1) same)))) left left_later)

  -- the first request leaves
  pub queue_rest : (line : List Request) (strays : List OldWrite) → Queue s events line strays → Queue s events (drop 1 line) strays
  queue_rest [] strays queue = queue
  queue_rest (request ∷ rest) strays queue = record { sent = queue.sent; under_way = queue.under_way.1; in_order = queue.in_order.1; old_writes = queue.old_writes; old_in_order = queue.old_in_order }

  -- a new request joins the line
  module _ (line : List Request) (strays : List OldWrite) (request : Request) (next : number_in request ≡ s.requests + 1) (granted : IsOfGrant s request) (timely : is_late_request s.clock request ≡ false) (queue : Queue s events line strays) where
    abbrev more : Stage
    more = record s { requests = s.requests + 1 }

    granted_more : (life : ℕ) (write : writes.Write) → IsGranted s life write → IsGranted more life write
    granted_more life write was = record { place = was.place; granted = was.granted; from = was.from; its = was.its; at = was.at }

    of_grant_more : (one : Request) → IsOfGrant s one → IsOfGrant more one
    of_grant_more (sent.Write write) was = (granted_more s.lives write was.0, was.1)
    of_grant_more (sent.Read read) was = tt

    pub queue_push : Queue more events (line ++ request ∷ []) strays
    queue_push = record {
      sent = all_map (IsSent s) (IsSent more) (λ timed was life at number asked. let far = was life at number asked in record { life_until = far.life_until; link_until = far.link_until; number_until = λ same link. omega (arith, far.number_until same link) }) events queue.sent;
      under_way = all_push (IsUnderWay more events) line request
          (all_map (IsUnderWay s events) (IsUnderWay more events) (λ one was. record { low = was.low; high = omega (arith, was.high); granted = of_grant_more one was.granted; timely = was.timely }) line queue.under_way)
          (record {
            low = all_map (IsSent s) (AskedUpTo (s.lives, s.link) (number_in request)) (λ timed was number asked. omega (arith, (was s.lives s.link number asked).number_until refl refl, next)) events queue.sent;
            high = omega (arith, next);
            granted = of_grant_more request granted;
            timely = timely;
          });
      in_order = order_append NotAbove line (request ∷ []) queue.in_order (tt, tt) (all_map (IsUnderWay s events) (λ one. AllByRecursion (NotAbove one) (request ∷ [])) (λ one was. (omega (arith, was.high, next), tt)) line queue.under_way);
      old_writes = all_map (IsStray s events) (IsStray more events) (λ stray was. record { low = was.low; granted = granted_more stray.life stray.write was.granted; until = was.until; old = was.old; timely = was.timely }) strays queue.old_writes;
      old_in_order = queue.old_in_order;
    }

  -- the line is emptied: its writes are old ones
  module _ (bound : s.bound ≡ s.link) where
    abbrev wider : Stage
    wider = record s { bound = s.link + 1 }

    granted_wider : (life : ℕ) (write : writes.Write) → IsGranted s life write → IsGranted wider life write
    granted_wider life write was = record { place = was.place; granted = was.granted; from = was.from; its = was.its; at = was.at }

    old_ones : (line : List Request) → AllByRecursion (IsUnderWay s events) line → AllByRecursion (IsStray wider events) (old_writes s.lives line)
    old_ones [] its = tt
    old_ones (sent.Write write ∷ line) its = (
      record {
        low = subst (λ (at : ℕ). AllByRecursion (AskedUpTo (s.lives, at) write.number) events) (sym its.0.granted.1) its.0.low;
        granted = granted_wider s.lives write its.0.granted.0;
        until = omega arith;
        old = λ same. omega (arith, its.0.granted.1);
        timely = its.0.timely;
      },
      old_ones line its.1,
    )
    old_ones (sent.Read read ∷ line) its = old_ones line its.1

    behind_one : (number link : ℕ) (write : writes.Write) (line : List Request) → write.number ≡ number → AllByRecursion (λ request. number ≤ number_in request) line → AllByRecursion (NotAboveOld (record { life = s.lives; write = write })) (old_writes s.lives line)
    behind_one number link write [] is later = tt
    behind_one number link write (sent.Write other ∷ line) is later = ((λ life at. omega (arith, is, later.0)), behind_one number link write line is later.1)
    behind_one number link write (sent.Read read ∷ line) is later = behind_one number link write line is later.1

    old_ones_order : (line : List Request) → InOrder NotAbove line → InOrder NotAboveOld (old_writes s.lives line)
    old_ones_order [] order = tt
    old_ones_order (sent.Write write ∷ line) order = (behind_one write.number write.link write line refl order.0, old_ones_order line order.1)
    old_ones_order (sent.Read read ∷ line) order = old_ones_order line order.1

    behind_old : (stray : OldWrite) → IsStray s events stray → (line : List Request) → AllByRecursion (IsUnderWay s events) line → AllByRecursion (NotAboveOld stray) (old_writes s.lives line)
    behind_old stray old [] its = tt
    behind_old stray old (sent.Write write ∷ line) its = ((λ life at. absurd (omega (arith, old.old life, bound, at, its.0.granted.1))), behind_old stray old line its.1)
    behind_old stray old (sent.Read read ∷ line) its = behind_old stray old line its.1

    pub queue_emptied : (line : List Request) (strays : List OldWrite) → Queue s events line strays → Queue wider events [] (strays ++ old_writes s.lives line)
    queue_emptied line strays queue = record {
      sent = all_map (IsSent s) (IsSent wider) (λ timed was life at number asked. was life at number asked) events queue.sent;
      under_way = tt;
      in_order = tt;
      old_writes = all_append (IsStray wider events) strays (old_writes s.lives line)
          (all_map (IsStray s events) (IsStray wider events) (λ stray was. record { low = was.low; granted = granted_wider stray.life stray.write was.granted; until = was.until; old = λ same. omega (arith, was.old same, bound); timely = was.timely }) strays queue.old_writes)
          (old_ones line queue.under_way);
      old_in_order = order_append NotAboveOld strays (old_writes s.lives line) queue.old_in_order (old_ones_order line queue.in_order)
          (all_map (IsStray s events) (λ stray. AllByRecursion (NotAboveOld stray) (old_writes s.lives line)) (λ stray old. behind_old stray old line queue.under_way) strays queue.old_writes);
    }

  -- a new link
  module _ (bound : s.bound ≤ s.link + 1) where
    abbrev linked : Stage
    linked = record s { link = s.link + 1; requests = 0; bound = s.link + 1 }

    pub queue_linked : (strays : List OldWrite) → Queue s events [] strays → Queue linked events [] strays
    queue_linked strays queue = record {
      sent = all_map (IsSent s) (IsSent linked) (λ timed was life at number asked.
          let far = was life at number asked in
          record { life_until = far.life_until; link_until = λ same. omega (arith, far.link_until same); number_until = λ same link. absurd (omega (arith, far.link_until same, link)) }) events queue.sent;
      under_way = tt;
      in_order = tt;
      old_writes = all_map (IsStray s events) (IsStray linked events) (λ stray was. record {
        low = was.low;
        granted = record { place = was.granted.place; granted = was.granted.granted; from = was.granted.from; its = was.granted.its; at = was.granted.at };
        until = was.until;
        old = λ same. omega (arith, was.old same, bound);
        timely = was.timely;
      }) strays queue.old_writes;
      old_in_order = queue.old_in_order;
    }

  -- the next life
  abbrev next : Stage
  next = record s { lives = s.lives + 1; link = 0; requests = 0; bound = 0 }

  pub queue_next : (strays : List OldWrite) → Queue s events [] strays → Queue next events [] strays
  queue_next strays queue = record {
    sent = all_map (IsSent s) (IsSent next) (λ timed was life at number asked.
        let far = was life at number asked in
        record { life_until = omega (arith, far.life_until); link_until = λ same. absurd (omega (arith, far.life_until, same)); number_until = λ same link. absurd (omega (arith, far.life_until, same)) }) events queue.sent;
    under_way = tt;
    in_order = tt;
    old_writes = all_map (IsStray s events) (IsStray next events) (λ stray was. record {
      low = was.low;
      granted = record { place = was.granted.place; granted = was.granted.granted; from = was.granted.from; its = was.granted.its; at = was.granted.at };
      until = omega (arith, was.until);
      old = λ same. absurd (omega (arith, was.until, same));
      timely = was.timely;
    }) strays queue.old_writes;
    old_in_order = queue.old_in_order;
  }

-- Two files that a table says are one.
use Rattle.std.proofs.Common.{◌≡◌, ℕ, ◌≤◌, ℤ, List, [], ◌∷◌, map, refl, sym, ap, subst, ◌∙◌}
use Rattle.std.proofs.Props.{props}
use Rattle.std.proofs.lemmas.Option.{same_Some}
use Rattle.toml.specs.Data.{Members}
use Rattle.limiter_num.specs.declared.rules.Rules.{Rules}
use Rattle.limiter_num.specs.declared.rating.Rating.{Rating}
use Rattle.limiter_num.specs.Milliwatts.{IsRated, full_of}
use Rattle.plant_book.specs.declared.site.Unit as unit
use Rattle.site_config.specs.declared.points.Points.{Points}
use Rattle.site_config.specs.SiteFile.{SiteFileRecord, IsFileOf, points_of}

-- two values that are made of one x, each with a proof of a fact that has one proof at most
over : {A B : Type 0} (P : A → Type 0) (make : (x : A) → P x → B) → ((x : A) → IsProp (P x)) → (x y : A) → x ≡ y → (p : P x) (q : P y) → make x p ≡ make y q
over {A} P make prop x y e = subst (λ (z : A). (p : P x) (q : P z) → make x p ≡ make z q) e (λ p q. ap (make x) (prop x p q))

same_rating : (a b : Rating) → a.wmax ≡ b.wmax → a.wsf ≡ b.wsf → a.psf ≡ b.psf → a ≡ b
same_rating a b wmax wsf psf =
    over {A = ℕ × ℤ × ℤ} {B = Rating} (λ n. IsRated n.0 n.1 n.2) (λ n p. record { wmax = n.0; wsf = n.1; psf = n.2; sound = p }) (λ n. hlevel props)
    (a.wmax, a.wsf, a.psf) (b.wmax, b.wsf, b.psf) (λ i. (wmax i, wsf i, psf i)) a.sound b.sound

same_unit : (a b : unit.Unit) → points_of a ≡ points_of b → a ≡ b
same_unit a b points =
    let rating = same_rating a.rating b.rating (ap (λ (p : Points). p.wmax) points) (ap (λ (p : Points). p.wsf) points) (ap (λ (p : Points). p.psf) points) in
    let floor = ap (λ (p : Points). p.floor) points in
    over {A = Rating × ℕ} {B = unit.Unit} (λ n. n.1 ≤ full_of n.0.psf) (λ n p. record { rating = n.0; floor = n.1; within = p }) (λ n. hlevel props)
    (a.rating, a.floor) (b.rating, b.floor) (λ i. (rating i, floor i)) a.within b.within

same_units : (us vs : List unit.Unit) → map points_of us ≡ map points_of vs → us ≡ vs
same_units [] [] points = refl
same_units [] (b ∷ vs) points = absurd cc
same_units (a ∷ us) [] points = absurd cc
same_units (a ∷ us) (b ∷ vs) points =
    let first : points_of a ≡ points_of b = cc in
    let more : map points_of us ≡ map points_of vs = cc in
    ap (λ (u : unit.Unit). u ∷ us) (same_unit a b first) ∙ ap (λ (rest : List unit.Unit). b ∷ rest) (same_units us vs more)

record InRange (send delay timer per_mille slack : ℕ) : Type 0 where
  send_low : 1 ≤ send
  send_high : send ≤ 60000
  delay_high : delay ≤ 600000
  timer_low : 1 ≤ timer
  timer_high : timer ≤ 86400
  per_mille_high : per_mille ≤ 500
  slack_high : slack ≤ 600000

in_range : (a : Rules) → InRange a.send a.delay a.timer a.per_mille a.slack
in_range a = record {
  send_low = a.send_low;
  send_high = a.send_high;
  delay_high = a.delay_high;
  timer_low = a.timer_low;
  timer_high = a.timer_high;
  per_mille_high = a.per_mille_high;
  slack_high = a.slack_high;
}

same_rules : (a b : Rules) → a.send ≡ b.send → a.delay ≡ b.delay → a.timer ≡ b.timer → a.per_mille ≡ b.per_mille → a.slack ≡ b.slack → a ≡ b
unfolding in_range
same_rules a b send delay timer per_mille slack =
    over {A = ℕ × ℕ × ℕ × ℕ × ℕ} {B = Rules} (λ n. InRange n.0 n.1 n.2 n.3 n.4)
    (λ n p. record {
      send = n.0;
      delay = n.1;
      timer = n.2;
      per_mille = n.3;
      slack = n.4;
      send_low = p.send_low;
      send_high = p.send_high;
      delay_high = p.delay_high;
      timer_low = p.timer_low;
      timer_high = p.timer_high;
      per_mille_high = p.per_mille_high;
      slack_high = p.slack_high;
    }) (λ n. hlevel props)
    (a.send, a.delay, a.timer, a.per_mille, a.slack) (b.send, b.delay, b.timer, b.per_mille, b.slack) (λ i. (send i, delay i, timer i, per_mille i, slack i)) (in_range a) (in_range b)

same_site : (table : Members) (a b : SiteFileRecord) → IsFileOf table a → IsFileOf table b → a.site ≡ b.site
same_site table a b of_a of_b =
    let cap = of_a.cap ∙ sym of_b.cap in
    let rules = same_rules a.site.rules b.site.rules (of_a.send ∙ sym of_b.send) (of_a.delay ∙ sym of_b.delay) (of_a.timer ∙ sym of_b.timer)
    (of_a.per_mille ∙ sym of_b.per_mille) (of_a.slack ∙ sym of_b.slack) in
    let policy = same_Some _ _ (of_a.policy ∙ sym of_b.policy) in
    let room = of_a.room ∙ sym of_b.room in
    let units = same_units a.site.units b.site.units (of_a.units ∙ sym of_b.units) in
    (λ i. record { cap = cap i; rules = rules i; policy = policy i; room = room i; units = units i })

pub same_file : (table : Members) (a b : SiteFileRecord) → IsFileOf table a → IsFileOf table b → a ≡ b
same_file table a b of_a of_b =
    let site = same_site table a b of_a of_b in
    let ports = of_a.ports ∙ sym of_b.ports in
    let renew = of_a.renew ∙ sym of_b.renew in
    let pause = of_a.pause ∙ sym of_b.pause in
    let wait = of_a.wait ∙ sym of_b.wait in
    (λ i. record { site = site i; ports = ports i; renew = renew i; pause = pause i; wait = wait i })

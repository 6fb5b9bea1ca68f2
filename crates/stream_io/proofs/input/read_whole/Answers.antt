-- A piece that isn't kept was read all the same.
use Rattle.std.proofs.Common.{ℕ, List, ◌++◌, Option, Some, None, ap, sym, ◌∙◌, arith, append_assoc, length-append}
use Rattle.std.specs.Io.KnownBytes.{Consumes}
use Rattle.stream_io.proofs.input.read_whole.Goals as goal

consumes_more : (old mid new : Option (List ℕ)) (xs ys : List ℕ) → Consumes old mid xs → Consumes mid new ys → Consumes old new (xs ++ ys)
consumes_more None mid new xs ys front more = tt
consumes_more (Some old) None new xs ys front more = absurd front
consumes_more (Some old) (Some mid) None xs ys front more = absurd more
consumes_more (Some old) (Some mid) (Some new) xs ys front more = front ∙ ap (λ (bytes : List ℕ). xs ++ bytes) more ∙ sym (append_assoc xs ys new)

pub returns-then-len-count-clause-fault : goal.returns-then-len-count-clause-fault
returns-then-len-count-clause-fault g c = (
  _,
  record {
    bytes = consumes_more _ _ _ _ _ c.loop.invariant.front.bytes c.in-Ok.ensures.bytes.0;
    beyond = omega (arith, length-append {A = ℕ}, c.in-Ok.ensures.bound.1);
    works = c.in-Ok.ensures.cause.kept ∙ c.loop.invariant.works;
  },
)

pub returns-then-is_err-clause-fault : goal.returns-then-is_err-clause-fault
returns-then-is_err-clause-fault g c = (
  _,
  (
    c.in-Ok.ensures.cause.kept ∙ c.loop.invariant.works,
    record {
      bytes = consumes_more _ _ _ _ _ c.loop.invariant.front.bytes c.in-Ok.ensures.bytes.0;
      within = omega (arith, length-append {A = ℕ}, c.in-Ok.ensures.bound.1);
    },
  ),
)

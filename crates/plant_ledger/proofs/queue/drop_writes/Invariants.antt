use Rattle.std.proofs.Common.{◌≡◌, drop}
use Rattle.plant_ledger.specs.Queue.{without_writes}
use Rattle.plant_ledger.proofs.queue.drop_writes.Given as goal

abbrev pub invariant-loop-write : goal.invariant-loop-write
invariant-loop-write l =
    without_writes l.inverter (drop l.write-index l.gone) l.expiries ≡ without_writes l.inverter l.gone l.initial.expiries

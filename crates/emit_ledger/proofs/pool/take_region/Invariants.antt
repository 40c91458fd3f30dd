-- What the loop of `take_region` keeps.
use Rattle.std.proofs.Common.{◌≡◌}
use Rattle.std.specs.List.{AllWithin}
use Rattle.emit_ledger.specs.Pool.{StartsAt}
use Rattle.emit_ledger.proofs.pool.take_region.Given as goal

-- in no place so far is there such a region
abbrev pub invariant-loop-place : goal.invariant-loop-place
invariant-loop-place l = record {
  same : l.pool.items ≡ l.fn.pool.items;
  none : AllWithin (λ slot. StartsAt l._problem l.branch slot → ⊥) l.pool.items 0 l.place;
}

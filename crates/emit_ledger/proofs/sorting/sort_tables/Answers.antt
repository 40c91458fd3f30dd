-- The answer to the goal of `sort_tables`.
use Rattle.std.proofs.Common.{rules, ◌≡◌, ◌++◌, length, take, drop, ap, ◌∙◌, arith}
use Rattle.std.specs.Ordering.{is_lt, nat_cmp}
use Rattle.std.specs.Cmp.Lexicographic.{slice_cmp}
use Rattle.std.proofs.lemmas.Cmp.{nat_list_cmp_total}
use Rattle.std.proofs.lemmas.Fn.{always_returns_same}
use Rattle.std.proofs.lemmas.List.Sorted.{ranks_by}
use Rattle.std.proofs.Math.Seq.{take-append_seam}
use Rattle.emit_ledger.proofs.sorting.sort_tables.Goals as goal

pub returns-clause-sorted : goal.returns-clause-sorted
returns-clause-sorted c =
    let up = c.sort_unstable_by.ensures.sorted (λ x y. is_lt (slice_cmp nat_cmp x y)) (ranks_by nat_list_cmp_total (λ z. z))
    (always_returns_same _ (λ a r. is_lt r ≡ is_lt (slice_cmp nat_cmp a.0.now a.1.0.now)) _ (λ a r f' k. search rules)) in
    let len : c.into_vec-tables.result.len ≡ length c.sort_unstable_by.new.self =
    omega (arith, c.sort_unstable_by.ensures.len, ap length c.as_mut_slice.ensures.value, c.into_vec-tables.result.ok.0) in
    let same : c.from_vec.result ≡ c.sort_unstable_by.new.self =
    c.from_vec.ensures
    ∙ ap (λ n. take n (c.sort_unstable_by.new.self ++ drop (length c.sort_unstable_by.new.self) c.into_vec-tables.result.items)) len
    ∙ take-append_seam c.sort_unstable_by.new.self (drop (length c.sort_unstable_by.new.self) c.into_vec-tables.result.items) in
    rw same up

-- The answers to the goals of `in_past`.
use Rattle.std.proofs.Common.{◌≡◌, pos, neg_ℤ, ◌-ℤ◌, nat_abs, to_z, of_z, w64, sym, ap, ◌∙◌, arith}
use Rattle.std.proofs.lemmas.Int.{ints}
use Rattle.std.proofs.lemmas.Option.{same_Some}
use Rattle.trio_types.proofs.Bounded.{nat_abs_neg, near_of}
use Rattle.history_check.proofs.window.in_past.Goals as goal

pub at_distance-requires : goal.at_distance-requires
at_distance-requires c = record {
  near = λ d is.
      let back = c.in-Some.back in
      let small = c.requires.near back c.in-Some.is in
      let near = near_of back small in
      let opposite = to_z w64 (of_z w64 (pos 0 -ℤ to_z w64 (of_z w64 back))) in
      let neg : opposite ≡ neg_ℤ back = omega (arith, ints, near.not_far_back, near.not_far_on) in
      let same = same_Some opposite d is in
      omega (arith, ap nat_abs (sym same ∙ neg), nat_abs_neg back, small);
}

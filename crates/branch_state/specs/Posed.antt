-- What a problem is.
use Rattle.std.specs.Prelude.{ℕ, List, Option, refl}
use Rattle.std.specs.Coded.{Coded, code_by, coded×, coded_ℕ, coded_list, coded_option}
use Rattle.trio_types.specs.contracts.spec.Spec as the_spec
use Rattle.trio_core.specs.contracts.nodes.Core as the_core
use Rattle.trio_types.specs.declared.spec.Spec.{Spec}
use Rattle.trio_types.specs.World.{World}
use Rattle.trio_types.specs.Verdict.{world_of}
use Rattle.trio_core.specs.declared.nodes.Core.{Core}
use Rattle.trio_core.specs.Stands.{StandsFor}
use Rattle.history_table.specs.Fitting.{IsGiven}

-- a specification, a core, and a given history
pub record Posed : Type 0 where
  pub spec : Spec
  pub core : Core
  pub given : List (Option ℕ)

abbrev pub posed : Spec → Core → List (Option ℕ) → Posed
posed spec core given = record { spec = spec; core = core; given = given }

-- by which such values are told apart
abbrev pub posed_code : Coded Posed
posed_code =
    code_by (Spec × (Core × List (Option ℕ))) (coded× (the_spec.the_row).coded (coded× (the_core.the_row).coded (coded_list (coded_option coded_ℕ))))
    (λ p. (p.spec, (p.core, p.given))) (λ q. posed q.0 q.1.0 q.1.1) (λ _. refl)

-- they are a problem: the core stands for the specification, and the history fits it
pub record IsPosed (p : Posed) : Type 0 where
  pub stands : StandsFor p.core p.spec
  pub fits : IsGiven (world_of p.spec) p.given

-- what the specification of a problem speaks of
abbrev pub world_of_problem : Posed → World
world_of_problem p = world_of p.spec

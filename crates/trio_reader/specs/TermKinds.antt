-- Kinds as code keeps them.
use Rattle.trio_types.specs.Kinds.{Kind, no_kind, number, truth_value, word}
use Rattle.trio_reader.specs.declared.kind.TermKind.{TermKind}
use Rattle.trio_reader.specs.declared.kind.TermKind.TheVariants as kind

abbrev pub seen : TermKind → Kind
seen kind.Unkinded = no_kind
seen kind.Number = number
seen kind.Truth = truth_value
seen (kind.Word d) = word d

-- What the reader of trees answers.
use Rattle.std.specs.Prelude.{◌≡◌, List, None, Some, Result, Ok, Err}
use Rattle.trio_text.specs.declared.lexeme.Lexeme.{Lexeme}
use Rattle.trio_syntax.specs.declared.tree.SpecTree.{SpecTree}
use Rattle.trio_syntax.specs.declared.fault.TreeFault.{TreeFault}
use Rattle.trio_syntax.specs.declared.fault.TreeFault.TheVariants.{Deep, Syntax, Memory}
use Rattle.trio_syntax.specs.Reading.{IsReading, IsSyntaxFault}
use Rattle.trio_syntax.specs.Grammar.{IsSpec}
use Rattle.trio_syntax.specs.Depth.{first_deep}

-- the tokens' only tree, or the first fault: too many open brackets anywhere come before all else
abbrev pub IsTree : List Lexeme → Result SpecTree TreeFault → Type 0
IsTree tokens (Ok tree) = (first_deep tokens ≡ None) × IsReading IsSpec tokens tree
IsTree tokens (Err (Deep place)) = first_deep tokens ≡ Some place
IsTree tokens (Err (Syntax place)) = (first_deep tokens ≡ None) × IsSyntaxFault IsSpec tokens place
IsTree tokens (Err Memory) = Unit {0}

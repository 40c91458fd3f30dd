-- The bytes with which a text was refused.
use Rattle.std.proofs.Common.{◌≡◌, ℕ, ◌≤◌, ◌⊎◌, inl, inr, List, length, Option, Some, Result, Err, refl, subst, sym}
use Rattle.trio_io.specs.Outside.{ShelfView, Holds}
use Rattle.trio_types.specs.World.{World}
use Rattle.trio_reader.specs.declared.fault.SpecFault.{SpecFault}
use Rattle.trio_reader.specs.declared.fault.SpecFault.TheVariants as spec_fault
use Rattle.trio_reader.specs.Reading.{HasFault}
use Rattle.history_table.specs.declared.fault.HistFault.{HistFault}
use Rattle.history_table.specs.declared.fault.HistFault.TheVariants as history_fault
use Rattle.history_table.specs.History.{IsHistoryAnswer}
use Rattle.trio_jobs.specs.declared.fault.Fault.{Fault}
use Rattle.trio_jobs.specs.declared.fault.Fault.TheVariants as fault
use Rattle.trio_jobs.specs.declared.fault.Text.TheVariants as text
use Rattle.trio_jobs.specs.Fault.{history_refusal}
use Rattle.trio_jobs.specs.Load.{most_bytes, FileFault, AreBytes, RefusesSpec, RefusesHistory}
use Rattle.trio_jobs.specs.Loading.{HasCause}

-- no fault of a file is one of its text
pub unread_refuses : (before now : ShelfView) (world : World) (name bytes : List ℕ) (f : Fault) →
    HasCause before now (Unit {0}) (FileFault text.History before name) f → RefusesHistory world before name bytes f
unread_refuses before now world name bytes f (inl failed) = subst (RefusesHistory world before name bytes) (sym failed.0) tt
unread_refuses before now world name bytes f (inr (inl want)) = subst (RefusesHistory world before name bytes) (sym want) tt
unread_refuses before now world name bytes f (inr (inr (inl x, counted))) = subst (RefusesHistory world before name bytes) (sym x.0) tt
unread_refuses before now world name bytes f (inr (inr (inr x, counted))) = subst (RefusesHistory world before name bytes) (sym x.0) tt

pub unread_refuses_spec : (before now : ShelfView) (name bytes : List ℕ) (f : Fault) →
    HasCause before now (Unit {0}) (FileFault text.Spec before name) f → RefusesSpec before name bytes f
unread_refuses_spec before now name bytes f (inl failed) = subst (RefusesSpec before name bytes) (sym failed.0) tt
unread_refuses_spec before now name bytes f (inr (inl want)) = subst (RefusesSpec before name bytes) (sym want) tt
unread_refuses_spec before now name bytes f (inr (inr (inl x, counted))) = subst (RefusesSpec before name bytes) (sym x.0) tt
unread_refuses_spec before now name bytes f (inr (inr (inr x, counted))) = subst (RefusesSpec before name bytes) (sym x.0) tt

refusal_refuses : (world : World) (shelf : ShelfView) (name bytes : List ℕ) (g : HistFault) → Holds shelf name (Some bytes) →
    length bytes ≤ most_bytes text.History → IsHistoryAnswer world bytes (Err g) → RefusesHistory world shelf name bytes (history_refusal world g)
refusal_refuses world shelf name bytes history_fault.Memory there within has = tt
refusal_refuses world shelf name bytes (history_fault.MissingRow row) there within has = (there, within, (row, has, refl))
refusal_refuses world shelf name bytes g there within has = (there, within, has)

-- a history whose text was refused, or memory was wanting
pub history_refuses : (world : World) (shelf : ShelfView) (name bytes : List ℕ) (g : HistFault) (f : Fault) → Holds shelf name (Some bytes) →
    length bytes ≤ most_bytes text.History → IsHistoryAnswer world bytes (Err g) → (f ≡ history_refusal world g) ⊎ (f ≡ fault.Memory) →
    RefusesHistory world shelf name bytes f
history_refuses world shelf name bytes g f there within has (inl is) =
    subst (RefusesHistory world shelf name bytes) (sym is) (refusal_refuses world shelf name bytes g there within has)
history_refuses world shelf name bytes g f there within has (inr want) = subst (RefusesHistory world shelf name bytes) (sym want) tt

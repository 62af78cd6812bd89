-- The cell of a text that isn't null, in a column without a separator. The search doesn't take the two results of a call apart.
use Rattle.std.proofs.Common.{◌≡◌, ◌&&◌, ℕ, Bool, not, true, false, List, refl, subst, sym, MatchBool}
use Rattle.std.specs.Prelude.{Result, Ok, Err, OnOk}
use Rattle.csvw_fault.specs.declared.fault.Code.{Code}
use Rattle.csvw_datatype.specs.declared.datatype.Datatype.{Datatype}
use Rattle.csvw_datatype.specs.declared.simple.Simple.{Simple}
use Rattle.csvw_datatype.specs.declared.simple.Simple.TheVariants as simples
use Rattle.csvw_datatype.specs.Strings.{is_text, takes_any_text, has_expression, white_space, space_of}
use Rattle.csvw_datatype.specs.declared.white_space.WhiteSpace.TheVariants as ways
use Rattle.csvw_columns_core.specs.declared.properties.Properties.{Properties}
use Rattle.csvw_cell.specs.declared.cell.CellValue.{CellValue}
use Rattle.csvw_cell.specs.declared.cell.CellValue.TheVariants.{Null}
use Rattle.csvw_cell.specs.CellOf.{IsJudged, IsSingle, is_null, missing}

pub single_judged : {E : Type 0} (r : Result (Unit {0}) E) (p : Properties) (d : Datatype) (text : List ℕ) (value : CellValue) (faults : List Code)
    → is_null p.null text ≡ false → d ≡ p.datatype → OnOk r (IsJudged d text value faults)
    → OnOk r (IsSingle p text (record { value = value; faults = faults }))
single_judged (Ok u) p d text value faults apart same judged =
    let IsNull : Type 0 = (value ≡ Null) × (faults ≡ missing p) in
    subst (λ b. MatchBool b IsNull (IsJudged p.datatype text value faults)) (sym apart) (subst (λ d. IsJudged d text value faults) same judged)
single_judged (Err x) p d text value faults apart same judged = tt

text_stays : (s : Simple) → is_text s ≡ true → space_of s ≡ ways.Preserve
text_stays simples.Text h = refl
text_stays simples.Truth h = cc
text_stays simples.Whole h = cc
text_stays simples.Decimal h = cc
text_stays simples.Day h = cc
text_stays simples.Uri h = cc
text_stays (simples.Derived w) h = cc
text_stays simples.Moment h = cc
text_stays (simples.Other t) h = cc
text_stays (simples.Floating t) h = cc

first : (a b : Bool) → a && b ≡ true → a ≡ true
first true b h = refl
first false b h = cc

-- white space stays in a string
pub any_text_keeps : (d : Datatype) → takes_any_text d ≡ true → white_space d ≡ ways.Preserve
any_text_keeps d h = text_stays d.simple (first (is_text d.simple) (not (has_expression d.format)) h)

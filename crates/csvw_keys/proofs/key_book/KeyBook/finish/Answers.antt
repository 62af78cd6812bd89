use Rattle.std.proofs.Common.{◌≡◌, ◌∙◌, ap, sym, subst, flat_map, All, true}
use Rattle.std.specs.List.Sorted.{IsPermutation, IsSorted}
use Rattle.csvw_report.specs.Order.{fault_cmp}
use Rattle.csvw_keys.specs.Books.{is_served, purposes_of, told}
use Rattle.csvw_keys.specs.KeyRules.{key_faults}
use Rattle.csvw_keys.proofs.BookLemmas.{all_told_are}
use Rattle.csvw_keys.proofs.RecordingLemmas.{all_keys, same_faults}
use Rattle.csvw_keys.proofs.key_book.KeyBook.finish.Goals as goal

pub returns : goal.returns
returns c = λ rules tables keeps.
    let books = c.args.self.now.books.items in
    let served = subst (All (λ rule. is_served (purposes_of books) rule ≡ true)) (sym keeps.rules) (all_keys (λ rule. is_served (purposes_of books) rule ≡ true) rules keeps.served) in
    let given : c.of.result ≡ key_faults rules tables =
    c.of.ensures
    ∙ c.in_ok-faults.ensures
    ∙ ap (λ bs. flat_map (told bs) bs) c.as_slice.ensures.value
    ∙ all_told_are tables books keeps.keeps books keeps.keeps served
    ∙ ap (λ keys. key_faults keys tables) keeps.rules
    ∙ same_faults tables rules in
    record {
      same = subst (IsPermutation (key_faults rules tables)) (sym c.into_vec.ensures)
          (subst (λ fs. IsPermutation fs c.sorted.result) given c.sorted.ensures.same);
      sorted = subst (IsSorted fault_cmp) (sym c.into_vec.ensures) c.sorted.ensures.order;
    }

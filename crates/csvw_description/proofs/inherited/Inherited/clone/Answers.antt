-- Each property is that property.
use Rattle.csvw_description.proofs.inherited.Inherited.clone.Goals as goal

pub returns : goal.returns
returns c =
    let urls = rw c.in_ok-urls.ensures.0 at c.both.ensures in
    let links = rw urls.0 at c.both_copied-links.ensures in
    let values = rw urls.1 at c.both_copied-values.ensures in
    let others = rw c.in_ok-urls.ensures.1 at c.both-2.ensures in
    let texts = rw others.0 at c.both_copied-texts.ensures in
    let parts = rw others.1 at c.both_copied-parts.ensures in
    λ i. record {
      about_url = links.0 i;
      property_url = links.1 i;
      value_url = values.0 i;
      datatype = values.1 i;
      default = texts.0 i;
      lang = texts.1 i;
      null = parts.0 i;
      ordered = c.args.self.now.ordered;
      required = c.args.self.now.required;
      separator = parts.1 i;
    }

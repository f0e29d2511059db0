use Rattle.std.proofs.Common.{◌++◌, map, take, sym, ap, ◌∙◌}
use Rattle.listing.specs.Listing.{rows_text, result_text}
use Rattle.listing.proofs.Listed.{listed_back, row_taken}
use Rattle.listing.proofs.Pages.{rows_firings}
use Rattle.listing.proofs.text.Goals as goal

pub returns-in-Ok : goal.returns-in-Ok
returns-in-Ok c =
    let k = c.in-Ok.count in
    let l = listed_back 20 c.args.script.now k c.in-Ok.ensures.answer in
    let ds = l.firings in
    let moments = row_taken (λ d. d.moment) _ ds _ _ k l.are l.size c.list.ensures.moments in
    let slots = row_taken (λ d. d.slot) _ ds _ _ k l.are l.size c.list.ensures.slots in
    c.rows.ensures
    ∙ ap (λ x. c.args.page.now.bytes ++ x)
    (ap (λ ms. rows_text ms (take k c.list.new.slots)) moments
    ∙ ap (rows_text (map (λ d. d.moment) ds)) slots
    ∙ rows_firings ds
    ∙ sym (ap result_text l.are))

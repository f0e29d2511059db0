use Rattle.std.proofs.Common.{◌≡◌, ◌+◌, ◌*◌, ◌≤◌, ◌++◌, length}
use Rattle.std.specs.Iterator.Adapters.{zip_first, zip_second}
use Rattle.std.specs.Slice.Iter.{iter_rest}
use Rattle.listing.specs.Listing.{rows_text}
use Rattle.listing.proofs.page.rows.Given as goal

abbrev pub invariant-loop-moment : goal.invariant-loop-moment
invariant-loop-moment l =
    let moments = iter_rest (zip_first l.moment-iterator) in
    let slots = iter_rest (zip_second l.moment-iterator) in
    (l.page.bytes ++ rows_text moments slots ≡ l.initial.page.bytes ++ rows_text l.moments l.slots) × (length l.page.bytes + 25 * length moments ≤ length l.initial.page.bytes + 25 * length l.moments)

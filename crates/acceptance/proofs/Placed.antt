-- The place of a refusal is the first one at fault.
use Rattle.acceptance.specs.Places.{RefusalPlaces}
use Rattle.acceptance.proofs.LinePlaces.{fields_place, fields_named, blocked_place, uncovered_place}
use Rattle.acceptance.proofs.ListPlaces.{beyond_place, crowded_place, crowded_count}
use Rattle.acceptance.proofs.RestorePlaces.{byte_place, unmet_place}

-- all places
pub all_places : RefusalPlaces
all_places = record {
  field_place = λ l room given s saved line i. fields_place l room given s saved line.kind line.clause line.pivot line.first line.second i;
  field_named = λ l room given s saved line f. fields_named l room given s saved line.kind line.clause line.pivot line.first line.second f;
  blocked_place = λ n l room given s saved line k o. blocked_place n l room given s saved o line.kind line.clause line.pivot line.first line.second k;
  uncovered_place = λ n l room given s saved line i j o. uncovered_place n l room given s saved o line.kind line.clause line.pivot line.first line.second i j;
  beyond_place = beyond_place;
  crowded_place = crowded_place;
  crowded_count = crowded_count;
  byte_place = byte_place;
  unmet_place = unmet_place;
}

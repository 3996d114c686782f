mod ImportanceLemmas
mod FeedMaps
mod MadePosters
mod SolvedParts

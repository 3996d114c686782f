mod DrawLemmas
mod WalkLemmas
mod FolderLemmas

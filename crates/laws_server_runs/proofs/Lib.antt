pub mod Fronts
mod ConfirmedLoads
pub mod Steps
mod GetNotes
pub mod Loads
pub mod LoadsSteps
pub mod BuiltStreams
pub mod FamilyRanges
mod AnsweredGroups
pub mod FamilyParents
pub mod FamilyLoads
mod NamedKeys
pub mod HeldKeys
pub mod FamilyMembers
pub mod FamilyReads
pub mod LoadsAnswers
pub mod LoadsAnswered
pub mod ConfirmedLoad
pub mod Confirms
pub mod Behind
pub mod LayerCells
pub mod Replaying
mod HeldCheckpoints
mod LoadedRecords
mod RowAppends
mod MetadataJobs
pub mod ServingStays
mod StaysServed
mod KeysRecords
pub mod SplitJobs
mod TurnChanges
pub mod SplitsSince
pub mod SplitsBack
pub mod CompletedSplits
pub mod CompletedMoments
pub mod Eldest
pub mod SplitsReplay
mod ChildMoves
mod NamesBehind
mod ChildTold
mod ChildHeard
pub mod ChildSteps
pub mod SplitsHeld
mod PausedSplits
mod ClosedRanges
pub mod FormedGroups
mod ClosedStories
pub mod SplitMore
pub mod SplitTurns
mod IndexOrder
mod SeenTables
mod IndexRead
mod ClientAnswers
pub mod NamedIndexes
mod CheckpointBegins
mod CheckpointMerges
mod HeldBytes
mod CheckpointNumbers
mod CheckpointRows
mod CheckpointRecorded
mod CheckpointStreams
mod CheckpointSteps
mod CheckpointReplies
mod CheckpointKept
mod OutsideKeys
mod LoadedRows
mod ServedLine
pub mod HeldLine
pub mod LoadedLine
pub mod ObservedLoad
pub mod Order
pub mod Others
pub mod ServedNotes
pub mod ServedForms
pub mod ServedStands
pub mod Served
pub mod Rules
pub mod Apart
mod RecordKinds
mod KeptKeys
pub mod Theorem
mod PausedRuns
pub mod ChildTheorem
pub mod ChildStands
pub mod StoodRanges
pub mod Worked
pub mod Unconfirmed
pub mod NeededPremises
pub mod RecordSizes
mod RecordChanges
mod LaidFits
mod LaidOffsets
pub mod LaidLayers
mod LaidBytes
mod LaidReplies
mod LaidStates
mod LaidCheckpoints
mod LaidServed
pub mod LaidSteps
pub mod RangeLists
pub mod StatesKept
pub mod Unmerged
pub mod RunSteps
pub mod Actions
pub mod LaidRuns
mod LaidRules
mod LaidSplits
mod SideActions
mod HeldRecords
mod LaidRecords
mod SideRecords
mod StepRules
mod LaidTables
pub mod UntouchedRanges
pub mod LoadedWithin
pub mod OwnNotes
pub mod NotedRanges
pub mod Beside
pub mod Kept
pub mod FirstAlone
pub mod Folding
pub mod OneRegion
pub mod WorkedRanges
pub mod WorkedSplits
mod WorkedChildren
mod WorkedBirths
mod WorkedReplays
pub mod CheckpointActions
pub mod AnsweredServers
pub mod SplitStays
pub mod AnsweredStands
pub mod AnsweredRuns
pub mod AnsweredEvents
pub mod AnsweredBirths
pub mod AnsweredNotes
pub mod AnsweredReplays
mod WorkedAnswers
pub mod WaitingGets
pub mod TriedGets
mod SplitGets
pub mod GetsServed
mod ReadTables
pub mod ServerGets
pub mod AnsweredGets
pub mod ClosedSplits
pub mod ServedMoments
mod WorkedReads

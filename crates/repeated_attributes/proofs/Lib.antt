mod MarkedList
mod MarkedLists
